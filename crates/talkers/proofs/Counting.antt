-- Rows that are counted one after another, and a whole run.
use Rattle.std.proofs.Common.{◌≡◌, ◌∙◌, ap, append_assoc, sym, refl, subst, List, [], ◌∷◌, ◌++◌, map, Option, Some, None, Ok, Err}
use Rattle.std.specs.List.{FoldsTo, flat_map}
use Rattle.filter_db.specs.declared.place.Place.{Place}
use Rattle.overlay.specs.declared.settings.change.Change.{Change}
use Rattle.timeline.specs.declared.event.Event.{Event}
use Rattle.endpoint_core.specs.Settings.{Settings}
use Rattle.wire.specs.declared.ether.reason.Refused.{Refused}
use Rattle.endpoint_core.specs.Arrival.{Arrival}
use Rattle.endpoint_core.specs.Forwarding.{Forwarding, decision_of}
use Rattle.endpoint_core.specs.Decision.{Sent}
use Rattle.endpoint_core.specs.Step.{Answer, opened, sent_at}
use Rattle.segment_set.specs.Segments.{Segments}
use Rattle.stream_run.specs.Sights.{Sight, sights}
use Rattle.ranked_rows.specs.Frequent.{Frequent}
use Rattle.ranked_rows.specs.declared.key_count.KeyCount.{KeyCount}
use Rattle.ranked_rows.proofs.Keeping.{keeps_none, nothing_behind}
use Rattle.ranked_rows.specs.Rows.{row_of}
use Rattle.talkers.specs.Passed.{nothing, one_frame, passed_with}
use Rattle.talkers.specs.Sums.{frames_summed, no_frames, nothing_is, with_grouped, with_turned, with_whole}
use Rattle.talkers.specs.Talk.{rank}
use Rattle.talkers.specs.declared.rows.passed.Passed.{Passed}
use Rattle.talkers.specs.declared.coming.Coming.{Coming}
use Rattle.talkers.specs.declared.rows.talk.Exit.{Exit}
use Rattle.talkers.specs.declared.rows.talk.Exit.TheVariants.{Drop}
use Rattle.talkers.specs.declared.rows.talk.Talk.{Talk}
use Rattle.talkers.specs.Run.{IsCounted, reply_rows, talks_in}
use Rattle.talkers.specs.Talkers.{KeepsOf, Sees, SeesReply, Takes, Talkers, coming_of, exit_of, exit_to, frames_of, talk_of, talk_rows}

-- with no frames more all stays
pub takes_none : (t : Frequent Talk Passed) → Takes t [] t
takes_none t = λ came keeps. subst (λ (l : List (KeyCount Talk Passed)). KeepsOf l t) (sym (nothing_behind came)) keeps

pub takes_one : (old new : Frequent Talk Passed) (coming : Coming) (to : Exit) (talk : Talk) (passed : Passed) → talk ≡ talk_of coming to → passed ≡ one_frame coming.octets coming.moment
    → ((came : List (KeyCount Talk Passed)) → KeepsOf came old → KeepsOf (came ++ row_of talk passed ∷ []) new) → Takes old (talk_rows (Some coming) to) new
takes_one old new coming to talk passed is counts more =
    λ came keeps. subst (λ (row : KeyCount Talk Passed). KeepsOf (came ++ row ∷ []) new) (λ i. row_of (is i) (counts i)) (more came keeps)

-- a frame is sent at the places that it goes to
places_sent : (f : Place → Sent) → ((place : Place) → (f place).place ≡ place) → (places : List Place) → map (λ (o : Sent). o.place) (map f places) ≡ places
places_sent f own [] = refl
places_sent f own (place ∷ places) = λ i. own place i ∷ places_sent f own places i

pub exit_forwarded : (S : Settings) (k : Forwarding) (x : Arrival) (places : List Place) → k ≡ Ok x → exit_of (decision_of S k places) ≡ exit_to places
exit_forwarded S k x places is =
    ap (λ (l : Forwarding). exit_of (decision_of S l places)) is ∙ ap exit_to (places_sent (sent_at S x.vid x.frame) (λ place. refl) places)

pub exit_refused : (S : Settings) (k : Forwarding) (refused : Refused) (places : List Place) → k ≡ Err refused → exit_of (decision_of S k places) ≡ Drop
exit_refused S k refused places is = ap (λ (l : Forwarding). exit_of (decision_of S l places)) is

-- ---- a run

told : (old : Talkers) (s : Sight) (new : Talkers) (r : Option Answer) → SeesReply old (record { state = s.state; number = s.number; event = s.event }) r new
    → Takes old.rows (reply_rows (coming_of s.state.bridges.settings s.event.moment s.event.happening) r) new.rows
told old s new None is = subst (λ (t : Talkers). Takes old.rows [] t.rows) (sym is) (takes_none old.rows)
told old s new (Some a) is = is.rows

folded : (seen : List Sight) (begun last : Talkers) → FoldsTo Sees begun seen last → Takes begun.rows (flat_map talks_in seen) last.rows
folded [] begun last h = subst (λ (t : Talkers). Takes begun.rows [] t.rows) h (takes_none begun.rows)
folded (s ∷ seen) begun last h =
    λ came keeps.
    let mid : Talkers = h.0 in
    subst (λ (l : List (KeyCount Talk Passed)). KeepsOf l last.rows) (append_assoc came (talks_in s) (flat_map talks_in seen))
    (folded seen mid last h.2 (came ++ talks_in s) (told begun s mid s.reply h.1 came keeps))

pub whole_run : (segments : Segments) (S : Settings) (cs : List Change) (es : List Event) (begun ended : Talkers) → IsCounted segments S cs es begun ended
    → KeepsOf (flat_map talks_in (sights segments cs (opened S) 0 es)) ended.rows
whole_run segments S cs es begun ended is =
    folded (sights segments cs (opened S) 0 es) begun ended is.seen []
    (subst (λ (t : Talkers). KeepsOf [] t.rows) (sym is.none)
    (keeps_none rank passed_with nothing frames_of (record { grouped = with_grouped; turned = with_turned; whole = with_whole; nothing = nothing_is }) (record { summed = frames_summed; never = no_frames })))
