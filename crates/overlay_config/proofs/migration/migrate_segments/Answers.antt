use Rattle.std.proofs.Common.{◌≡◌, Some, None, codes, option_map, sym, ap, ◌∙◌}
use Rattle.toml.specs.Data.{get_member}
use Rattle.toml.specs.View.{view, members_view}
use Rattle.toml.proofs.Views.{view-lookup}
use Rattle.overlay_config.specs.Migrate.{migrated_list, without}
use Rattle.overlay_config.proofs.Rewrites.{view-remove, ok_inside}
use Rattle.overlay_config.proofs.migration.migrate_segments.Goals as goal

pub returns-in_ok-list-in-Some-clause-value : goal.returns-in_ok-list-in-Some-clause-value
returns-in_ok-list-in-Some-clause-value c =
    let k = codes "segment" in
    let es = c.args.settings.now.entries in
    let found : get_member k (members_view es) ≡ Some (view c.in-Some.list) = sym (view-lookup k es) ∙ ap (option_map view) (sym c.remove.ensures.value ∙ c.in-Some.is) in
    let listed : migrated_list (view c.in-Some.list) ≡ view c.in_ok-list-in-Some.list = ok_inside (migrated_list (view c.in-Some.list)) (view c.in_ok-list-in-Some.list) c.in_ok-list-in-Some.ensures in
    let removed : members_view c.remove.new.self.entries ≡ without k (members_view es) = view-remove k es c.remove.new.self.entries c.remove.ensures.entries c.remove.ensures.updates.1 in
    rw (found, listed, ← removed) c.put.ensures.value

pub returns-in-None-clause-value : goal.returns-in-None-clause-value
returns-in-None-clause-value c =
    let k = codes "segment" in
    let es = c.args.settings.now.entries in
    let found : get_member k (members_view es) ≡ None = sym (view-lookup k es) ∙ ap (option_map view) (sym c.remove.ensures.value ∙ c.in-None.is) in
    rw found (view-remove k es c.remove.new.self.entries c.remove.ensures.entries c.remove.ensures.updates.1)
