use Rattle.std.proofs.Common.{◌∙◌, ◌-◌, List, ℕ, length, take, sym, subst}
use Rattle.wire.specs.Tag.{SkipsTags}
use Rattle.wire.proofs.TagLemmas.{SkipsTags-without_tags}
use Rattle.wire.proofs.ether.ether_view.EtherView.skip_tags.Goals as goal

-- the two parts, as a front of tags and the rest
parts : (c : goal.After-behind_tags-rest) → let after = c.after_addresses-after.result.now in
    SkipsTags c.args.most after (take (length after - length c.behind_tags-rest.result.now) after) c.behind_tags-rest.result.now
parts c =
    let after = c.after_addresses-after.result.now in
    subst (λ (z : List ℕ). SkipsTags c.args.most after (take (length after - length z) after) z) (sym c.behind_tags-rest.ensures.rest) (SkipsTags-without_tags c.args.most after)

pub returns-clause-whole : goal.returns-clause-whole
returns-clause-whole c = sym (parts c).whole ∙ c.after_addresses-after.ensures.part

pub returns-clause-longest : goal.returns-clause-longest
returns-clause-longest c =
    let after = c.after_addresses-after.result.now in
    let rest = c.behind_tags-rest.result.now in
    subst (λ (z : List ℕ). SkipsTags c.args.most z (take (length after - length rest) after) rest) c.after_addresses-after.ensures.part (parts c)
