-- Two runs as far as they answer a segment alike. It states no standard.
--     IsUpTo      a run up to a change of the segment's own
--     IsParting, PartAt      two runs part at a change that one of them has no room for
--     AgreeUntil      what a segment is answered, what leaves in it and what is told of it is the same up to there
use Rattle.std.specs.Prelude.{◌≡◌, ◌≢◌, ℕ, true, ◌||◌, List, [], ◌∷◌, ◌++◌}
use Rattle.timeline.specs.declared.source.Tap.{Tap}
use Rattle.overlay.specs.declared.settings.change.Change.{Change}
use Rattle.endpoint_core.specs.Change.{refused}
use Rattle.endpoint_core.specs.Event.{Asks, Event, change_at}
use Rattle.endpoint_core.specs.Run.{settings_after}
use Rattle.endpoint_core.specs.Settings.{Settings}
use Rattle.endpoint_core.specs.Step.{Replied, opened}
use Rattle.noninterference.specs.Leaving.{Row, rows, departures, lines_in, records_in}
use Rattle.tenants_apart.specs.Own.{Needs, lacks_room, own_rows}

-- of events that come from settings S on those before a change, those behind it, and the change with what it is answered
pub record IsUpTo (S : Settings) (es : List Event) (moment : ℕ) (change : Change) (row : Row) : Type 0 where
  pub before : List Event
  pub behind : List Event
  pub events : before ++ change_at moment change ∷ behind ≡ es
  pub answer : row ≡ record { event = change_at moment change; reply = Replied (refused (settings_after S before) change) }

-- both rows are of one change of the segment's own that needs room. It is answered otherwise, since one of the runs at least
-- has no room for it
pub record IsParting (vid : ℕ) (S T : Settings) (es fs : List Event) (x y : Row) : Type 0 where
  pub moment : ℕ
  pub change : Change
  pub mine : IsUpTo S es moment change x
  pub theirs : IsUpTo T fs moment change y
  pub otherwise : x.reply ≢ y.reply
  pub lacking : lacks_room vid (settings_after S mine.before) (Asks change)
      || lacks_room vid (settings_after T theirs.before) (Asks change) ≡ true

-- nothing is left in either run, or the first in both is such a change
abbrev pub PartAt : ℕ → Settings → Settings → List Event → List Event → List Row → List Row → Type 0
PartAt vid S T es fs [] [] = Unit {0}
PartAt vid S T es fs (x ∷ xs) (y ∷ ys) = IsParting vid S T es fs x y
PartAt vid S T es fs _ _ = ⊥

-- what is read of all rows of two runs begins with what is read of the same rows
pub record BeginAlike {A : Type 0} (read : List Row → List A) (rs ts alike mine theirs : List Row) : Type 0 where
  pub mine_is : read rs ≡ read alike ++ read mine
  pub theirs_is : read ts ≡ read alike ++ read theirs

-- the segment's own events and their answers are the same up to the first that parts the runs, or to the end. What leaves in the
-- segment at each output, and its lines, are so too
pub record AgreeUntil (vid : ℕ) (needs : Needs) (S T : Settings) (es fs : List Event) : Type 0 where
  pub alike : List Row
  pub mine : List Row
  pub theirs : List Row
  pub mine_is : alike ++ mine ≡ own_rows vid needs (opened S) es
  pub theirs_is : alike ++ theirs ≡ own_rows vid needs (opened T) fs
  pub parted : PartAt vid S T es fs mine theirs
  pub records : (output : Tap)
      → BeginAlike (λ rs. records_in vid output (departures rs)) (rows (opened S) es) (rows (opened T) fs) alike mine theirs
  pub told : BeginAlike (lines_in vid) (rows (opened S) es) (rows (opened T) fs) alike mine theirs
