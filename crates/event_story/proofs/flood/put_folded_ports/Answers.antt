use Rattle.std.proofs.Common.{◌≡◌, ◌∙◌, ◌+◌, ◌++◌, arith, ap, append_assoc, length, map, subst, sym, ℕ, List, [], Option}
use Rattle.std.specs.Prelude.{OnOk}
use Rattle.std.specs.List.{flat_map, range_with_len}
use Rattle.std.specs.Option.{option_to_list}
use Rattle.std.proofs.lemmas.List.{flat_map_more, length-map}
use Rattle.std.proofs.lemmas.List.FromFn.{map-range_with_len_more}
use Rattle.filter_db.specs.declared.place.Place.{Place}
use Rattle.filter_db.specs.declared.place.Place.TheVariants.{Local}
use Rattle.overlay.specs.declared.ports.port.PortRule.{PortRule}
use Rattle.tunnel_learning.specs.Bridge.{config_of}
use Rattle.event_story.specs.Bridge.{left_among, left_out}
use Rattle.event_story.specs.Neighbours.{folded}
use Rattle.event_story.specs.declared.fact.Fact.{Fact}
use Rattle.event_story.proofs.NeighbourLemmas.{last-put}
use Rattle.event_story.proofs.flood.put_folded_ports.Goals as goal

pub loop-number-preserved : goal.loop-number-preserved
loop-number-preserved c = λ rest.
    let told : Place → List Fact = λ to. option_to_list (left_out (config_of c.args.bridge.now) c.args.from to) in
    let n = c.loop-number.number in
    let before = c.args.facts.now.items in
    let ports : ℕ → List Place = λ k. map Local (range_with_len 1 k) in
    c.in_ok-begun.ensures rest
    ∙ ap (λ (o : Option Fact). c.loop-number.facts.items ++ folded (option_to_list c.loop-number.begun ++ (option_to_list o ++ rest)))
    c.left_out-next.ensures
    ∙ c.loop-number.invariant (told (Local (n + 1)) ++ rest)
    ∙ ap (λ (fs : List Fact). before ++ folded fs)
    (sym (append_assoc (flat_map told (ports n)) (told (Local (n + 1))) rest)
    ∙ ap (λ (fs : List Fact). fs ++ rest)
    (flat_map_more told [] (ports n) (Local (n + 1)) ∙ ap (flat_map told) (sym (map-range_with_len_more Local 1 n (n + 1) (omega arith)))))

pub returns : goal.returns
returns c =
    let told : ℕ → List Fact = λ k. left_among (config_of c.args.bridge.now) c.args.from (map Local (range_with_len 1 k)) in
    let ports = c.args.bridge.now.ports.now.ports in
    let last : c.loop-number.number ≡ length ports =
    omega (arith, c.loop-number-test.false, c.loop-number.auto.number-end, c.ports-number-end.ensures.value) in
    let all = last ∙ sym (length-map ports (λ (port : PortRule). port.up)) in
    subst (λ (fs : List Fact). OnOk c.put.result (c.put.new.facts.items ≡ fs))
    (last-put c.loop-number.facts.items c.args.facts.now.items (told c.loop-number.number) c.loop-number.begun c.loop-number.invariant
    ∙ ap (λ (k : ℕ). c.args.facts.now.items ++ folded (told k)) all)
    c.put.ensures
