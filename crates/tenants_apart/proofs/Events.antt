-- Two lists of events to endpoints with two settings.
use Rattle.std.proofs.Common.{◌≡◌, ◌∙◌, refl, sym, ap, not, ℕ, List, ◌++◌}
use Rattle.std.specs.FinMap.{empty, get}
use Rattle.std.specs.Option.{option_and_then}
use Rattle.filter_db.specs.Table.{is_seen_at}
use Rattle.filter_db.specs.declared.place.Place.TheVariants.{Local}
use Rattle.filter_db.proofs.TableLemmas.{kept-empty}
use Rattle.endpoint_core.specs.Settings.{Settings}
use Rattle.endpoint_core.specs.State.{live_in}
use Rattle.endpoint_core.specs.Event.{Event, IsRising}
use Rattle.endpoint_core.specs.Step.{opened}
use Rattle.noninterference.specs.Leaving.{Row, rows, departures_in, lines_in}
use Rattle.tenants_apart.specs.Own.{Needs, Part, AreMembers, part_of, own_events, room_replies, own_rows, IsFrontOf, IsEnough}
use Rattle.tenants_apart.proofs.Running.{own_from-is, replies_from-is, within-from, Related, Further, onward, rows-same}
use Rattle.tenants_apart.proofs.Kept.{Own, owned, Kept}
use Rattle.tenants_apart.proofs.Telling.{Reads, reads-departures, reads-lines}

-- of an endpoint that begins, at moment t
abbrev aged_empty : ℕ → Part → Own
aged_empty t p = record { settings = p; table = live_in p.bridge t empty }

kept-opened : (vid : ℕ) (needs : Needs) (S : Settings) → AreMembers vid needs S → Kept needs (owned vid needs (opened S).bridges)
kept-opened vid needs S members = record { members = members; table = λ q other. kept-empty (λ e. not (is_seen_at (Local q) e)); absent = λ none. refl }

pub Related-opened : (vid : ℕ) (needs : Needs) (S T : Settings) → AreMembers vid needs S → part_of vid needs S ≡ part_of vid needs T → Related vid needs (opened S) (opened T)
Related-opened vid needs S T members same = record {
  same = λ t late later. ap (aged_empty t) same;
  mine = kept-opened vid needs S members;
  theirs = kept-opened vid needs T (λ q other. ap (λ (p : Part). option_and_then (λ m. get m q) p.members) (sym same) ∙ members q other);
}

pub answers-alike : (vid : ℕ) (needs : Needs) (S T : Settings) (es fs : List Event) → IsRising 0 es → IsRising 0 fs → IsEnough vid needs S es → part_of vid needs S ≡ part_of vid needs T
    → own_events vid needs S es ≡ own_events vid needs T fs → room_replies vid S es ≡ room_replies vid T fs
    → own_rows vid needs (opened S) es ≡ own_rows vid needs (opened T) fs
answers-alike vid needs S T es fs up rising enough same events replies =
    rows-same vid needs (opened S) (opened T) es fs up rising (within-from vid needs (opened S) es enough.changes) enough.remotes (Related-opened vid needs S T enough.members same)
    (own_from-is vid needs (opened S) es ∙ events ∙ sym (own_from-is vid needs (opened T) fs))
    (replies_from-is vid needs (opened S) es ∙ replies ∙ sym (replies_from-is vid needs (opened T) fs))

-- what is read of them
pub read-alike : {A : Type 0} (vid : ℕ) (needs : Needs) (f : List Row → List A) → Reads A vid needs f → (S T : Settings) (es fs : List Event) → IsRising 0 es → IsRising 0 fs → IsEnough vid needs S es → part_of vid needs S ≡ part_of vid needs T
    → own_events vid needs S es ≡ own_events vid needs T fs → room_replies vid S es ≡ room_replies vid T fs
    → f (rows (opened S) es) ≡ f (rows (opened T) fs)
read-alike vid needs f reads S T es fs up rising enough same events replies =
    reads.own (opened S) es ∙ ap f (answers-alike vid needs S T es fs up rising enough same events replies) ∙ sym (reads.own (opened T) fs)

pub leaving-alike : (vid : ℕ) (needs : Needs) (S T : Settings) (es fs : List Event) → IsRising 0 es → IsRising 0 fs → IsEnough vid needs S es → part_of vid needs S ≡ part_of vid needs T
    → own_events vid needs S es ≡ own_events vid needs T fs → room_replies vid S es ≡ room_replies vid T fs
    → departures_in vid (rows (opened S) es) ≡ departures_in vid (rows (opened T) fs)
leaving-alike vid needs = read-alike vid needs (departures_in vid) (reads-departures vid needs)

pub lines-alike : (vid : ℕ) (needs : Needs) (S T : Settings) (es fs : List Event) → IsRising 0 es → IsRising 0 fs → IsEnough vid needs S es → part_of vid needs S ≡ part_of vid needs T
    → own_events vid needs S es ≡ own_events vid needs T fs → room_replies vid S es ≡ room_replies vid T fs
    → lines_in vid (rows (opened S) es) ≡ lines_in vid (rows (opened T) fs)
lines-alike vid needs = read-alike vid needs (lines_in vid) (reads-lines vid needs)

-- ---- the one as far as it goes

further : (vid : ℕ) (needs : Needs) (S T : Settings) (es fs : List Event) → IsRising 0 es → IsRising 0 fs → IsEnough vid needs S es → part_of vid needs S ≡ part_of vid needs T
    → (events : IsFrontOf (own_events vid needs S es) (own_events vid needs T fs)) → IsFrontOf (room_replies vid S es) (room_replies vid T fs)
    → Further vid needs (own_rows vid needs (opened S) es) (own_rows vid needs (opened T) fs) events.0
further vid needs S T es fs up rising enough same events replies =
    onward vid needs (opened S) es up (within-from vid needs (opened S) es enough.changes) enough.remotes (opened T) fs rising (Related-opened vid needs S T enough.members same)
    events.0 (ap (λ l. l ++ events.0) (own_from-is vid needs (opened S) es) ∙ events.1 ∙ sym (own_from-is vid needs (opened T) fs))
    replies.0 (ap (λ l. l ++ replies.0) (replies_from-is vid needs (opened S) es) ∙ replies.1 ∙ sym (replies_from-is vid needs (opened T) fs))

pub answers-front : (vid : ℕ) (needs : Needs) (S T : Settings) (es fs : List Event) → IsRising 0 es → IsRising 0 fs → IsEnough vid needs S es → part_of vid needs S ≡ part_of vid needs T
    → IsFrontOf (own_events vid needs S es) (own_events vid needs T fs) → IsFrontOf (room_replies vid S es) (room_replies vid T fs)
    → IsFrontOf (own_rows vid needs (opened S) es) (own_rows vid needs (opened T) fs)
answers-front vid needs S T es fs up rising enough same events replies =
    let more = further vid needs S T es fs up rising enough same events replies in
    (more.others, more.whole)

-- what is read of them
read-front : {A : Type 0} (vid : ℕ) (needs : Needs) (f : List Row → List A) → Reads A vid needs f → (S T : Settings) (es fs : List Event) → IsRising 0 es → IsRising 0 fs → IsEnough vid needs S es → part_of vid needs S ≡ part_of vid needs T
    → IsFrontOf (own_events vid needs S es) (own_events vid needs T fs) → IsFrontOf (room_replies vid S es) (room_replies vid T fs)
    → IsFrontOf (f (rows (opened S) es)) (f (rows (opened T) fs))
read-front vid needs f reads S T es fs up rising enough same events replies =
    let more = further vid needs S T es fs up rising enough same events replies in (
      f more.others,
      ap (λ l. l ++ f more.others) (reads.own (opened S) es)
          ∙ sym (reads.append (own_rows vid needs (opened S) es) more.others)
          ∙ ap f more.whole
          ∙ sym (reads.own (opened T) fs),
    )

pub leaving-front : (vid : ℕ) (needs : Needs) (S T : Settings) (es fs : List Event) → IsRising 0 es → IsRising 0 fs → IsEnough vid needs S es → part_of vid needs S ≡ part_of vid needs T
    → IsFrontOf (own_events vid needs S es) (own_events vid needs T fs) → IsFrontOf (room_replies vid S es) (room_replies vid T fs)
    → IsFrontOf (departures_in vid (rows (opened S) es)) (departures_in vid (rows (opened T) fs))
leaving-front vid needs = read-front vid needs (departures_in vid) (reads-departures vid needs)

pub lines-front : (vid : ℕ) (needs : Needs) (S T : Settings) (es fs : List Event) → IsRising 0 es → IsRising 0 fs → IsEnough vid needs S es → part_of vid needs S ≡ part_of vid needs T
    → IsFrontOf (own_events vid needs S es) (own_events vid needs T fs) → IsFrontOf (room_replies vid S es) (room_replies vid T fs)
    → IsFrontOf (lines_in vid (rows (opened S) es)) (lines_in vid (rows (opened T) fs))
lines-front vid needs = read-front vid needs (lines_in vid) (reads-lines vid needs)
