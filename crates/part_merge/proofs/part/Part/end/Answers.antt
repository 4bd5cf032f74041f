use Rattle.std.proofs.Common.{List, [], refl, rules, subst, sym}
use Rattle.std.proofs.lemmas.List.{with_items_is, places}
use Rattle.pcap.specs.Source.{Stream}
use Rattle.part_merge.specs.Coming.{OpenPart}
use Rattle.part_merge.specs.Left.{AreLeft}
use Rattle.part_merge.proofs.Blaming.{captures_part}
use Rattle.part_merge.proofs.part.Part.end.Goals as goal

pub returns-clause-ended : goal.returns-clause-ended
returns-clause-ended g c = λ count holds.
    let left : AreLeft (λ t. []) c.args.self.now.ports c.args.self.now.underlay = holds.left in
    c.end_captures.ensures.ended
    (subst (λ (ports : List Stream). AreLeft (λ t. []) ports c.self.inside.captures.underlay) (sym c.as_mut_slice.ensures.value)
    (subst (λ (s : OpenPart). AreLeft (λ t. []) s.ports s.underlay) (sym c.self.view_is) left))

pub returns-clause-reads : goal.returns-clause-reads
returns-clause-reads g c =
    rw (with_items_is c.self.inside.captures.ports c.end_captures.new.ports (search (rules, places)))
    (captures_part c.args.part c.args.self.now _ (record { reader = c.self.inside.lines; ports = c.end_captures.new.ports; underlay = c.end_captures.new.underlay; coming = c.self.inside.coming }) _ c.end_captures.result
    c.self.view_is c.as_mut_slice.ensures.value refl c.end_captures.ensures.reads)

pub returns-clause-no_write : goal.returns-clause-no_write
returns-clause-no_write g c = c.end_captures.ensures.no_write
