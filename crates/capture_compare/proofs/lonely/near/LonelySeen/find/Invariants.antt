use Rattle.std.proofs.Common.{◌≡◌, ℕ, ◌<◌, None}
use Rattle.record_match.specs.Kept.{told}
use Rattle.capture_compare.specs.Looking.{alone_at}
use Rattle.capture_compare.specs.Near.{near_by}
use Rattle.capture_compare.proofs.lonely.near.LonelySeen.find.Given as goal

-- none before this one is near
abbrev pub invariant-loop-i : goal.invariant-loop-i
invariant-loop-i l = record {
  before : (k : ℕ) → k < l.i → near_by l.reading l.within (told l.sent) (alone_at (told l.sent) l.self k).seen ≡ None;
}
