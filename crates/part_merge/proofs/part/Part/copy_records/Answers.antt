use Rattle.std.proofs.Common.{◌≡◌, ◌∙◌, ◌++◌, rules, refl, sym, ap, subst, ℕ, List, Option, IfSome, length}
use Rattle.std.proofs.KnownBytes.{Keeps-refl}
use Rattle.std.proofs.lemmas.List.{with_items_is, places}
use Rattle.pcap.specs.Source.{Stream}
use Rattle.part_lines.specs.Facts.{facts_of}
use Rattle.part_lines.specs.Parts.{places_in}
use Rattle.part_merge.specs.Coming.{OpenPart}
use Rattle.part_merge.specs.Left.{AreLeft}
use Rattle.part_merge.specs.Merged.{records_at}
use Rattle.part_merge.specs.Moved.{AreRecords, taps}
use Rattle.part_merge.specs.Told.{IsPlaced}
use Rattle.part_merge.proofs.Blaming.{captures_part}
use Rattle.part_merge.proofs.part.Part.copy_records.Goals as goal
use Rattle.part_merge.proofs.part.Part.copy_records.Goals.{in-None+in-Ok-Event, in-Some}

pub returns-in-Ok-Cut-clause-copied : goal.returns-in-Ok-Cut-clause-copied
returns-in-Ok-Cut-clause-copied g c = λ number records rest told sound left.
    let both = sym c.in-Ok-Cut.is ∙ c.read_line.ensures ∙ ap facts_of c.line-line.ensures.line ∙ ap (λ (s : OpenPart). facts_of s.reader.line) c.self.view_is ∙ told in
    absurd cc

pub returns-in-Ok-Cut-clause-kept : goal.returns-in-Ok-Cut-clause-kept
returns-in-Ok-Cut-clause-kept g c = Keeps-refl (g.W.Output.written c.args.decisions.now)

pub returns-in-Err-clause-copied : goal.returns-in-Err-clause-copied
returns-in-Err-clause-copied g c = λ number records rest told sound left.
    let both = sym c.in-Err.is ∙ c.read_line.ensures ∙ ap facts_of c.line-line.ensures.line ∙ ap (λ (s : OpenPart). facts_of s.reader.line) c.self.view_is ∙ told in
    absurd cc

pub returns-clause-copied : goal.returns-clause-copied
returns-clause-copied g c = λ number records rest told sound left.
    let line = c.line-line.ensures.line ∙ ap (λ (s : OpenPart). s.reader.line) c.self.view_is in
    let ports = ap (λ (s : OpenPart). s.ports) c.self.view_is in
    let underlay = ap (λ (s : OpenPart). s.underlay) c.self.view_is in
    let told_here = ap facts_of line ∙ told in
    let sound_here = subst (λ (l : List Stream). AreRecords (length l) records) (sym ports) sound in
    let left_here = subst (λ (l : List Stream). AreLeft (λ t. records_at t records ++ rest t) l c.self.inside.captures.underlay) (sym ports)
    (subst (λ (u : Stream). AreLeft (λ t. records_at t records ++ rest t) c.args.self.now.ports u) (sym underlay) left) in
    let same : c.match-self.places ≡ taps records = elim c.match-self.branch [
      | in-Some w ↦
          let placed = subst (λ (b : Option ℕ). IfSome b (IsPlaced c.self.inside.lines.line)) w.in-Some.is c.self.invariant.0 in
          let both = sym placed.told ∙ ap (λ (s : OpenPart). facts_of s.reader.line) c.self.view_is ∙ told in
          let there : places_in c.self.inside.lines.line w.in-Some.at ≡ taps records = cc in
          w.places-is ∙ w.behind-places.ensures ∙ ap (λ (l : List ℕ). places_in l w.in-Some.at) c.line-line.ensures.line ∙ there
      | in-None+in-Ok-Event w ↦
          let both = sym w.in-Ok-Event.is ∙ w.read_line.ensures ∙ told_here in
          let there : w.in-Ok-Event.places ≡ taps records = cc in
          w.places-is ∙ there
    ] in
    c.copy_all.ensures.copied records rest same sound_here left_here

pub returns-clause-reads : goal.returns-clause-reads
returns-clause-reads g c =
    captures_part c.args.part c.args.self.now _ (record { reader = c.self.inside.lines; ports = c.copy_all.new.captures.ports.items; underlay = c.copy_all.new.captures.underlay; coming = c.self.inside.coming }) _ c.copy_all.result
    c.self.view_is refl refl c.copy_all.ensures.reads

pub returns-clause-writes : goal.returns-clause-writes
returns-clause-writes g c = c.copy_all.ensures.writes
