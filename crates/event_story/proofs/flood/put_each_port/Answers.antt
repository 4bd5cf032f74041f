use Rattle.std.proofs.Common.{◌∙◌, ◌+◌, ◌++◌, arith, ap, map, sym, List, Option}
use Rattle.std.specs.List.{flat_map, range_with_len}
use Rattle.std.specs.Option.{option_to_list}
use Rattle.std.proofs.lemmas.List.{flat_map_more}
use Rattle.std.proofs.lemmas.List.FromFn.{map-range_with_len_more}
use Rattle.filter_db.specs.declared.place.Place.{Place}
use Rattle.filter_db.specs.declared.place.Place.TheVariants.{Local}
use Rattle.tunnel_learning.specs.Bridge.{config_of}
use Rattle.event_story.specs.Bridge.{left_out}
use Rattle.event_story.specs.declared.fact.Fact.{Fact}
use Rattle.event_story.proofs.flood.put_each_port.Goals as goal

pub loop-number-preserved : goal.loop-number-preserved
loop-number-preserved c =
    let told : Place → List Fact = λ to. option_to_list (left_out (config_of c.args.bridge.now) c.args.from to) in
    let n = c.loop-number.number in
    let before = c.args.facts.now.items in
    c.in_ok-put.ensures
    ∙ ap (λ (o : Option Fact). c.loop-number.facts.items ++ option_to_list o) c.left_out.ensures
    ∙ ap (λ (z : List Fact). z ++ told (Local (n + 1))) c.loop-number.invariant
    ∙ flat_map_more told before (map Local (range_with_len 1 n)) (Local (n + 1))
    ∙ ap (λ (xs : List Place). before ++ flat_map told xs) (sym (map-range_with_len_more Local 1 n (n + 1) (omega arith)))
