use Rattle.std.proofs.Common.{◌≡◌, ◌≢◌, sym, subst, arith}
use Rattle.packet_layers.specs.Dissection.{Layers}
use Rattle.packet_layers.specs.Apart.{joined}
use Rattle.packet_layers.specs.Laws.{AllStand, AgreesWithArrival}
use Rattle.packet_layers.proofs.LayersLemmas.{IsOf-dissection}
use Rattle.packet_layers.proofs.AgreeLemmas.{agrees}
use Rattle.packet_layers.proofs.dissection.dissect.Goals as goal

pub returns-clause-whole : goal.returns-clause-whole
returns-clause-whole c =
    let P : Layers → Type 0 = λ l. joined l.apart ≡ c.args.octets.now in
    subst P (sym c.take_layers-stop.ensures) (IsOf-dissection c.args.under.now c.args.depth c.args.octets.now).joined

pub returns-clause-places : goal.returns-clause-places
returns-clause-places c =
    let P : Layers → Type 0 = λ l. AllStand c.args.octets.now l.apart in
    subst P (sym c.take_layers-stop.ensures) (IsOf-dissection c.args.under.now c.args.depth c.args.octets.now).stand

pub returns-clause-agrees : goal.returns-clause-agrees
returns-clause-agrees c =
    let P : Layers → Type 0 = λ l. AgreesWithArrival c.args.under.now c.args.octets.now l in
    let some : c.args.depth ≢ 0 = λ none. let low = c.requires.low in absurd (omega arith) in
    subst P (sym c.take_layers-stop.ensures) (agrees c.args.under.now c.args.depth c.args.octets.now some)
