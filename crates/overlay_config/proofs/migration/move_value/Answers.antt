use Rattle.std.proofs.Common.{◌≡◌, Some, None, option_map, sym, ap, ◌∙◌}
use Rattle.toml.specs.Data.{get_member}
use Rattle.toml.specs.View.{view, members_view}
use Rattle.toml.proofs.Views.{view-lookup}
use Rattle.overlay_config.proofs.Rewrites.{view-remove, on_ok}
use Rattle.overlay_config.proofs.migration.move_value.Goals as goal

pub returns-in-Some-clause-from : goal.returns-in-Some-clause-from
returns-in-Some-clause-from c = on_ok _ (view-remove c.args.key.now _ _ c.remove.ensures.entries c.remove.ensures.updates.1)

pub returns-in-Some-clause-to : goal.returns-in-Some-clause-to
returns-in-Some-clause-to c =
    let k = c.args.key.now in
    let es = c.args.from.now.entries in
    let found : get_member k (members_view es) ≡ Some (view c.in-Some.value) = sym (view-lookup k es) ∙ ap (option_map view) (sym c.remove.ensures.value ∙ c.in-Some.is) in
    rw found c.put.ensures.value

pub returns-in-None-clause-from : goal.returns-in-None-clause-from
returns-in-None-clause-from c = view-remove c.args.key.now _ _ c.remove.ensures.entries c.remove.ensures.updates.1

pub returns-in-None-clause-to : goal.returns-in-None-clause-to
returns-in-None-clause-to c =
    let k = c.args.key.now in
    let es = c.args.from.now.entries in
    let found : get_member k (members_view es) ≡ None = sym (view-lookup k es) ∙ ap (option_map view) (sym c.remove.ensures.value ∙ c.in-None.is) in
    rw found
