use Rattle.std.proofs.Common.{◌≡◌, ◌∙◌, ap, length, rules, subst, sym}
use Rattle.pcapng_input.proofs.Giving.{nil_of, reads_behind, reads_plain}
use Rattle.pcapng_input.specs.Adapter.{Adapter, KeepsTold, told, told_octets}
use Rattle.pcapng_input.specs.State.{IsSound, stand_of}
use Rattle.pcapng_input.proofs.adapter.Adapter.give.Goals as goal

pub returns-in-Plain-clause-taken : goal.returns-in-Plain-clause-taken
returns-in-Plain-clause-taken g c =
    let inside = c.self.inside in
    let stand = stand_of inside.state inside.context in
    let before : Adapter = record { selection = inside.selection; ready = inside.ready; stand = stand; below = inside.gathered } in
    let after : Adapter = record { selection = inside.selection; ready = inside.ready; stand = stand; below = c.pass.new.self } in
    let kept : KeepsTold (told c.args.self.now) (told before) =
    subst (λ (x : Adapter). KeepsTold (told c.args.self.now) (told x)) (sym c.self.view_is) c.loop-self.invariant.kept in
    let zero_is : length inside.ready ≡ 0 = search rules in
    let empty = nil_of inside.ready zero_is in
    let plain = ap (λ s. stand_of s inside.context) c.in-Plain.is in
    let held = subst (λ s. IsSound s inside.context inside.gathered) c.in-Plain.is c.self.invariant.0 in
    reads_behind (told c.args.self.now) (told before) (told_octets after) c.pass.result c.pass.new.octets kept
    (reads_plain before after c.pass.result c.pass.new.octets (record { stand = plain; ready = empty; held = held })
    (record { stand = plain; ready = empty; held = c.pass.ensures.held ∙ held }) c.pass.ensures.taken)
