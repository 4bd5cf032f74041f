use Rattle.std.proofs.Common.{◌≡◌, ◌∙◌, ◌+◌, ◌++◌, ap, sym, arith, take, drop}
use Rattle.std.proofs.lemmas.List.{take-append-drop}
use Rattle.wire.specs.Sum.{total, folded}
use Rattle.wire.specs.Frame.{Frame}
use Rattle.encapsulate.specs.Packet.{frame_sum}
use Rattle.encapsulate.proofs.SumsLemmas.{frame-sum}
use Rattle.encapsulate.proofs.sums.frame_sum.Goals as goal

pub returns : goal.returns
returns c =
    let v = c.frame.inside in
    let stations : c.args.stations ≡ total v.addresses.now = c.requires.stations ∙ ap (λ (f : Frame). total (f.dst ++ f.src)) (sym c.frame.view_is) ∙ ap total (take-append-drop 6 v.addresses.now) in
    let sum : c.args.stations + c.from.result ≡ total v.addresses.now + folded (total v.body.now) = omega (arith, stations, c.from.ensures, c.folded.ensures) in
    frame-sum (take 6 v.addresses.now) (drop 6 v.addresses.now) v.body.now v.addresses.now c.fold.result (sym (take-append-drop 6 v.addresses.now)) c.frame.invariant.0 (c.fold.ensures ∙ ap folded sum) ∙ ap frame_sum c.frame.view_is
