use Rattle.std.proofs.Common.{◌≤◌, ◌-◌, ◌∙◌, sym, ap, arith, refl}
use Rattle.packet_layers.specs.Apart.{Apart}
use Rattle.packet_layers.specs.Dissection.{Taken, layers_from}
use Rattle.packet_layers.proofs.FrameLemmas.{from-stop, from-on}
use Rattle.packet_layers.proofs.dissection.take_layers.Goals as goal

pub loop-left-init : goal.loop-left-init
loop-left-init c =
    let taken = c.begin.ensures in
    rw taken (record { heads = omega arith; tails = omega arith; same = refl })

pub loop-left-preserved : goal.loop-left-preserved
loop-left-preserved c =
    let S = c.args.under.now in
    let a = c.loop-left.apart in
    let n = c.loop-left.left in
    let invariant = c.loop-left.invariant in
    let taken = c.in-Ok.ensures.taken in
    let some : 1 ≤ n = c.in-Ok.ensures.left in
    record {
      heads = omega (arith, invariant.heads, c.take_frame.ensures.few_heads);
      tails = omega (arith, invariant.tails, c.take_frame.ensures.few_tails);
      same = ap (layers_from S (n - 1)) (sym (ap (λ (t : Taken). t.apart) taken)) ∙ sym (from-on S n a some (ap (λ (t : Taken). t.stop) taken)) ∙ invariant.same;
    }

pub returns-in-Err : goal.returns-in-Err
returns-in-Err c =
    let S = c.args.under.now in
    let a = c.loop-left.apart in
    let n = c.loop-left.left in
    let taken = c.in-Err.ensures.taken in
    ap (λ (x : Apart). record { apart = x; stop = c.in-Err.stop }) (sym (ap (λ (t : Taken). t.apart) taken))
    ∙ sym (from-stop S n a c.in-Err.stop (ap (λ (t : Taken). t.stop) taken))
    ∙ c.loop-left.invariant.same
