-- The view of a whole run.
use Rattle.std.proofs.Common.{◌≡◌, ◌∙◌, ap, sym, subst, ℕ, Bool, List, [], ◌∷◌, ◌++◌, append_assoc, Option, Some, None}
use Rattle.std.specs.Prelude.{if◌then◌else◌}
use Rattle.std.specs.List.{FoldsTo}
use Rattle.std.proofs.lemmas.List.Concat.{flat_map-append}
use Rattle.overlay.specs.declared.settings.change.TimedChange.{TimedChange}
use Rattle.timeline.specs.declared.event.Event.{Event}
use Rattle.endpoint_core.specs.Settings.{Settings}
use Rattle.endpoint_core.specs.Step.{Answer, opened}
use Rattle.segment_set.specs.Segments.{Segments}
use Rattle.stream_run.specs.Sights.{Due, Sight, sights}
use Rattle.stream_run.specs.Steps.{changes_of}
use Rattle.decision_objects.specs.Writing.{Tells}
use Rattle.decision_objects.proofs.Growing.{tells_more}
use Rattle.run_view.specs.Blocks.{Item, head_text, item_text, text_of}
use Rattle.run_view.specs.Onlooking.{Sees, SeesReply, Shows, View, head_before}
use Rattle.run_view.specs.Run.{IsViewed, reply_items, run_items}
use Rattle.run_view.specs.View.{items_of, seen_of}

-- one and another are one
pub shows_more : (a b c : View) (xs ys : List Item) → Shows a xs b → Shows b ys c → Shows a (xs ++ ys) c
shows_more a b c xs ys first second =
    let behind : head_before b ++ text_of ys ≡ text_of ys = ap (λ (v : Bool). (if v then [] else head_text b.ports) ++ text_of ys) first.begun in
    let text : (head_before a ++ text_of xs) ++ (head_before b ++ text_of ys) ≡ head_before a ++ text_of (xs ++ ys) =
    ap (λ (t : List ℕ). (head_before a ++ text_of xs) ++ t) behind ∙ append_assoc (head_before a) (text_of xs) (text_of ys)
    ∙ ap (λ (t : List ℕ). head_before a ++ t) (sym (flat_map-append item_text xs ys)) in
    record {
      told = subst (λ (t : List ℕ). Tells a.told c.told t) text
          (tells_more a.told b.told c.told (head_before a ++ text_of xs) (head_before b ++ text_of ys) first.told second.told);
      begun = second.begun;
      ports = second.ports ∙ first.ports;
      changes = second.changes ∙ first.changes;
    }

abbrev due_of : Sight → Due
due_of s = record { state = s.state; number = s.number; event = s.event }

one : (old mid ended : View) (d : Due) (rest : List Item) (r : Option Answer) → SeesReply old d r mid → Shows mid rest ended
    → Shows old (reply_items old.ports old.changes d.number d.event r ++ rest) ended
one old mid ended d rest (Some a) is more = shows_more old mid ended (items_of old.ports (seen_of old.ports old.changes d.number d.event) a) rest is.0 more
one old mid ended d rest None is more = subst (λ (v : View). Shows v rest ended) is more

same_ports : (old mid : View) (d : Due) (r : Option Answer) → SeesReply old d r mid → mid.ports ≡ old.ports
same_ports old mid d (Some a) is = is.0.ports
same_ports old mid d None is = ap (λ (v : View). v.ports) is

same_changes : (old mid : View) (d : Due) (r : Option Answer) → SeesReply old d r mid → mid.changes ≡ old.changes
same_changes old mid d (Some a) is = is.0.changes
same_changes old mid d None is = ap (λ (v : View). v.changes) is

folded : (seen : List Sight) (ports : ℕ) (changes : List TimedChange) (begun last ended : View) → begun.ports ≡ ports → begun.changes ≡ changes
    → FoldsTo Sees begun seen last → Shows last [] ended → Shows begun (run_items ports changes seen) ended
folded [] ports changes begun last ended p c h is = subst (λ (v : View). Shows v [] ended) (sym h) is
folded (s ∷ seen) ports changes begun last ended p c h is =
    let mid : View = h.0 in
    let more : Shows mid (run_items ports changes seen) ended =
    folded seen ports changes mid last ended (same_ports begun mid (due_of s) s.reply h.1 ∙ p) (same_changes begun mid (due_of s) s.reply h.1 ∙ c) h.2 is in
    let here : Shows begun (reply_items begun.ports begun.changes s.number s.event s.reply ++ run_items ports changes seen) ended =
    one begun mid ended (due_of s) (run_items ports changes seen) s.reply h.1 more in
    subst (λ (n : ℕ). Shows begun (reply_items n changes s.number s.event s.reply ++ run_items ports changes seen) ended) p
    (subst (λ (cs : List TimedChange). Shows begun (reply_items begun.ports cs s.number s.event s.reply ++ run_items ports changes seen) ended) c here)

pub whole_view : (segments : Segments) (S : Settings) (ports : ℕ) (changes : List TimedChange) (es : List Event) (begun ended : View)
    → IsViewed segments S ports changes es begun ended
    → Tells begun.told ended.told (head_text ports ++ text_of (run_items ports changes (sights segments (changes_of changes) (opened S) 0 es)))
whole_view segments S ports changes es begun ended is =
    let seen = sights segments (changes_of changes) (opened S) 0 es in
    let all : Shows begun (run_items ports changes seen) ended = folded seen ports changes begun is.last ended is.of_ports is.of_changes is.seen is.ends.0 in
    let head : head_before begun ≡ head_text ports =
    ap (λ (v : Bool). if v then [] else head_text begun.ports) is.fresh ∙ ap (λ (n : ℕ). head_text n) is.of_ports in
    subst (λ (t : List ℕ). Tells begun.told ended.told (t ++ text_of (run_items ports changes seen))) head all.told
