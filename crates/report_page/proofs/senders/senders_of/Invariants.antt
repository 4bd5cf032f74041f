use Rattle.std.proofs.Common.{◌≡◌, ℕ, ◌≤◌, ◌+◌, ◌||◌, false, List, length, take}
use Rattle.std.specs.List.{list_any}
use Rattle.report_page.specs.Senders.{sends}
use Rattle.report_page.specs.Told.{is_elsewhere, talks_of}
use Rattle.report_page.proofs.senders.senders_of.Given as goal

-- whoever is asked for is among those that were put in, or sent a talk of the rest
abbrev pub invariant-loop-left : goal.invariant-loop-left
invariant-loop-left l = record {
  few : length l.senders + l.left ≤ 4096;
  same : (segment source place : List ℕ)
      → (list_any (sends false segment source place) l.senders
      || list_any (is_elsewhere segment source place) (take l.left (talks_of l.rest)))
      ≡ list_any (is_elsewhere segment source place) (take 4096 (talks_of l.text));
}

abbrev pub decreases-loop-left : goal.decreases-loop-left
decreases-loop-left l = l.left
