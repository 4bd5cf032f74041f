-- The events of a capture tell its records.
use Rattle.std.proofs.Common.{◌≡◌, ◌∙◌, refl, ap, ℕ, zero, suc, ◌+◌, max, List, [], ◌∷◌, length, take, arith, Option, None, Some, option_map}
use Rattle.std.specs.Prelude.{slice_get}
use Rattle.pcap.specs.Record.{Record}
use Rattle.timeline.specs.Events.{TellsEachRecord, event_behind, greatest, record_events}
use Rattle.timeline.specs.declared.event.Event.{Event}
use Rattle.timeline.specs.declared.event.Happening.TheVariants as happenings
use Rattle.timeline.specs.declared.source.Tap.{Tap}

-- the event of the last one of these records, behind so many others and their greatest moment
abbrev behind : Tap → ℕ → ℕ → List Record → Record → Event
behind tap count latest rs r = record {
  moment = max latest (greatest rs);
  number = count + length rs;
  happening = happenings.Record tap (record { original = r.original; octets = r.octets });
}

same_event : (tap : Tap) (r : Record) (m n moment number : ℕ) → m ≡ moment → n ≡ number
    → ◌≡◌ {A = Event} (record { moment = m; number = n; happening = happenings.Record tap (record { original = r.original; octets = r.octets }) })
    (record { moment = moment; number = number; happening = happenings.Record tap (record { original = r.original; octets = r.octets }) })
same_event tap r m n moment number is also = rw (is, also) refl

-- one record more in front, and one fewer behind it
shifted : (tap : Tap) (count latest : ℕ) (r : Record) (rs : List Record) (found : Option Record)
    → option_map (behind tap (count + 1) (max r.moment latest) rs) found ≡ option_map (behind tap count latest (r ∷ rs)) found
shifted tap count latest r rs None = refl
shifted tap count latest r rs (Some x) = ap Some (same_event tap x _ _ _ _ (omega arith) (omega arith))

tells_behind : (tap : Tap) (count latest : ℕ) (rs : List Record) (k : ℕ)
    → slice_get (record_events tap count latest rs) k ≡ option_map (behind tap count latest (take (suc k) rs)) (slice_get rs k)
tells_behind tap count latest [] k = refl
tells_behind tap count latest (r ∷ rs) zero = ap Some (same_event tap r _ _ _ _ (omega arith) (omega arith))
tells_behind tap count latest (r ∷ rs) (suc k) = tells_behind tap (count + 1) (max r.moment latest) rs k ∙ shifted tap count latest r (take (suc k) rs) (slice_get rs k)

from_none : (tap : Tap) (rs : List Record) (found : Option Record) → option_map (behind tap 0 0 rs) found ≡ option_map (event_behind tap rs) found
from_none tap rs None = refl
from_none tap rs (Some x) = ap Some (same_event tap x _ _ _ _ (omega arith) (omega arith))

pub tells_each_record : TellsEachRecord
tells_each_record c k =
    let next : suc k ≡ k + 1 = omega arith in
    tells_behind c.tap 0 0 c.capture.records k
    ∙ from_none c.tap (take (suc k) c.capture.records) (slice_get c.capture.records k)
    ∙ ap (λ n. option_map (event_behind c.tap (take n c.capture.records)) (slice_get c.capture.records k)) next
