use Rattle.part_merge.specs.Coming.{HoldsAll, OpenPart, StandBehind}
use Rattle.std.proofs.Common.{ℕ, List, Err, ap, refl, subst, sym}
use Rattle.line_stream.specs.Lines.{Reader}
use Rattle.pcap.specs.Source.{Stream}
use Rattle.part_merge.specs.Blame.{LinesRead}
use Rattle.part_merge.specs.Merged.{Piece}
use Rattle.part_merge.specs.declared.coming.Coming.TheVariants as coming
use Rattle.part_merge.proofs.Lining.{holds_on}
use Rattle.part_merge.proofs.part.Part.open.Goals as goal

stands : (count : ℕ) (pieces : List Piece) (cuts : List (List ℕ)) (lines : Reader) (ports : List Stream) (underlay : Stream) → HoldsAll count pieces cuts lines ports underlay
    → StandBehind count pieces cuts (record { reader = lines; ports = ports; underlay = underlay; coming = coming.Nothing })
stands count pieces cuts lines ports underlay all = record { texts = all.texts; rest = all.rest; late = λ e. absurd cc }

pub returns-in-Ok-clause-opened : goal.returns-in-Ok-clause-opened
returns-in-Ok-clause-opened g c = λ count pieces cuts all.
    let s : OpenPart = record { reader = c.args.lines; ports = c.args.ports.items; underlay = c.args.underlay; coming = coming.Nothing } in
    holds_on count pieces cuts s c.next.new.self all.texts all.few all.many all.left c.in-Ok.ensures.ports c.in-Ok.ensures.underlay
    (c.in-Ok.ensures.next count pieces cuts (stands count pieces cuts c.args.lines c.args.ports.items c.args.underlay all))

pub returns-in-Err-clause-opened : goal.returns-in-Err-clause-opened
returns-in-Err-clause-opened g c = λ count pieces cuts all.
    c.in-Err.ensures.next count pieces cuts (stands count pieces cuts c.args.lines c.args.ports.items c.args.underlay all)

pub returns-in-Ok-clause-reads : goal.returns-in-Ok-clause-reads
returns-in-Ok-clause-reads g c = rw (c.in-Ok.ensures.reads, c.in-Ok.ensures.ports, c.in-Ok.ensures.underlay) refl

pub returns-in-Err-clause-reads : goal.returns-in-Err-clause-reads
returns-in-Err-clause-reads g c = (
  subst (λ (r : Reader). LinesRead {T = Unit {0}} c.args.part c.args.lines r (Err c.in-Err.fault)) (sym (ap (λ (s : OpenPart). s.reader) c.opened.view_is)) c.in-Err.ensures.reads,
  c.in-Err.ensures.no_write,
)
