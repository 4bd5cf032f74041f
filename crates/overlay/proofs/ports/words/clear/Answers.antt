use Rattle.std.proofs.Common.{◌≡◌, ◌<◌, ◌+◌, ◌*◌, ◌/◌, ℕ, length, set, refl, sym, subst, arith}
use Rattle.std.proofs.lemmas.Grind.{elements}
use Rattle.overlay.proofs.WordLemmas.{Cleared, cleared-none, cleared-more}
use Rattle.overlay.proofs.ports.words.clear.Goals as goal

pub loop-column-init : goal.loop-column-init
loop-column-init c = (refl, cleared-none c.args.words.now c.args.vid)

pub loop-column-preserved : goal.loop-column-preserved
loop-column-preserved c =
    let i = c.loop-column.column in
    let words = c.loop-column.words in
    let small : c.args.vid < 4096 = omega (arith, c.get.ensures.in_range) in
    let lt : i * 8192 + c.args.vid < length words = omega (arith, c.loop-column.auto.words) in
    let at : i * 8192 + c.from.result ≡ i * 8192 + c.args.vid = omega (arith, c.from.ensures, c.get.ensures.value) in (
      grind (arith, c.loop-column.auto.words, elements),
      subst (λ (k : ℕ). Cleared (set words k 0) c.args.words.now c.args.vid (i + 1)) (sym at) (cleared-more words c.args.words.now c.args.vid i c.loop-column.invariant.1 small lt),
    )

pub returns : goal.returns
returns c q =
    let count : c.loop-column.column ≡ c.args.ports / 64 + 1 = omega (arith, c.loop-column-test.false, c.loop-column.auto.column-end) in
    subst (λ (n : ℕ). Cleared c.loop-column.words c.args.words.now c.args.vid n) count c.loop-column.invariant.1 q
