use Rattle.std.proofs.Common.{◌≡◌, ◌∙◌, ◌+◌, ◌++◌, refl, sym, ap, subst, append-nil, arith, take, drop}
use Rattle.std.proofs.KnownBytes.{Keeps-refl}
use Rattle.std.proofs.Math.Seq.{take-add}
use Rattle.std.proofs.lemmas.List.{drop-take}
use Rattle.std.specs.Io.KnownBytes.{Consumes}
use Rattle.line_stream.specs.Filled.{HasNoEnd}
use Rattle.line_stream.proofs.Ends.{none_in_nothing}
use Rattle.line_stream.proofs.Fills.{ended, read_more}
use Rattle.line_stream.proofs.fill.fill_line.Goals as goal

pub loop-read-init : goal.loop-read-init
loop-read-init g c = record {
  fits = c.requires.filled;
  size = c.requires.size;
  kept = omega arith;
  reserved = c.requires.reserved;
  seen = omega arith;
  none = none_in_nothing;
  quiet = refl;
  text = Keeps-refl _;
}

pub loop-read-preserved : goal.loop-read-preserved
loop-read-preserved g c =
    let read = c.in-Ok.ensures in
    let before = c.loop-read.invariant in
    let at = c.loop-read.read in
    let new = c.read_more.new.room.items in
    record {
      fits = read.fits;
      size = read.size;
      kept = omega (arith, before.kept, read.kept);
      reserved = read.reserved;
      seen = omega arith;
      none = subst HasNoEnd (ap (take at) c.deref.ensures.value ∙ sym read.front) c.in_default.ensures;
      quiet = read.failures ∙ before.quiet;
      text = read_more _ _ _ (take at c.loop-read.room.items) (take (at + c.in-Ok.more) new) (take c.in-Ok.more (drop at new)) before.text read.taken
          (take-add at c.in-Ok.more new ∙ ap (λ l. l ++ take c.in-Ok.more (drop at new)) read.front);
    }

pub returns-then-more-eq0-clause-filled : goal.returns-then-more-eq0-clause-filled
returns-then-more-eq0-clause-filled g c =
    let read = c.in-Ok.ensures in
    let before = c.loop-read.invariant in
    let at = c.loop-read.read in
    let new = c.read_more.new.room.items in
    let none : at ≡ at + 0 = omega arith in
    let consumed = subst (λ n. Consumes (g.R.Input.remaining c.loop-read.input) (g.R.Input.remaining c.read_more.new.input) (take n (drop at new))) c.if-more-eq0.true read.taken in (
      read.failures ∙ before.quiet,
      ended _ _ at new (read_more _ _ _ (take at c.loop-read.room.items) (take at new) (take 0 (drop at new)) before.text consumed (read.front ∙ sym (append-nil (take at c.loop-read.room.items)))) (read.end c.if-more-eq0.true)
          (subst HasNoEnd (ap (take at) c.deref.ensures.value ∙ sym read.front) c.in_default.ensures) (ap (λ n. drop at (take n new)) none ∙ drop-take at 0 new),
    )
