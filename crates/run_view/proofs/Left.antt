-- What left in the view of a run is what its output captures hold.
use Rattle.std.proofs.Common.{◌≡◌, ◌∙◌, ap, sym, refl, subst, ℕ, zero, suc, ◌+◌, ◌-◌, ◌==◌, ◌≤◌, arith, Bool, true, false, cond, List, [], ◌∷◌, ◌++◌, length, map, filter, append_assoc, append-nil, Option, Some, None, Result, Ok, Err}
use Rattle.std.specs.Prelude.{⊤}
use Rattle.std.specs.List.{AllByRecursion, cons_option, flat_map, range_with_len}
use Rattle.std.specs.Option.{option_to_list}
use Rattle.std.proofs.lemmas.Bool.{eq-eqb, eqb-false, eqb-true, ne_eqb}
use Rattle.std.proofs.lemmas.List.{map-append}
use Rattle.std.proofs.lemmas.List.Concat.{flat_map-append}
use Rattle.std.proofs.lemmas.List.Elements.{filter-append}
use Rattle.wire.specs.declared.ether.reason.Reason.{Reason}
use Rattle.pcap.specs.Record.{Record}
use Rattle.pcap.specs.Written.{written}
use Rattle.filter_db.specs.declared.place.Place.{Place}
use Rattle.filter_db.specs.declared.place.Place.TheVariants.{Local, Remote}
use Rattle.overlay.specs.declared.settings.change.Change.{Change}
use Rattle.overlay.specs.declared.settings.change.TimedChange.{TimedChange}
use Rattle.timeline.specs.declared.event.Event.{Event}
use Rattle.endpoint_core.specs.Among.{after_among, is_told}
use Rattle.endpoint_core.specs.Decision.{Sent}
use Rattle.endpoint_core.specs.Settings.{Settings}
use Rattle.endpoint_core.specs.Step.{Answer, Decided, Replied, State, answer, opened}
use Rattle.segment_set.specs.Segments.{Segments}
use Rattle.capture_run.specs.Among.{with_events_among}
use Rattle.capture_run.specs.Outputs.{Outputs, event_of, line_of}
use Rattle.capture_run.specs.Sendings.{Sending, capture_of, is_at_port, is_at_underlay, record_of, sending_of, sendings_of, sent_by}
use Rattle.capture_run.specs.Writing.{empty_outputs, with_event}
use Rattle.capture_run.proofs.Among.{ports_stay_among}
use Rattle.capture_run.proofs.Growing.{empty_holds, event_more, holding}
use Rattle.stream_run.specs.Sights.{Sight, answered, due, sight_among, sights, untold}
use Rattle.stream_run.specs.Steps.{changes_of, texts_behind}
use Rattle.run_view.specs.Left.{HoldWhatLeft, left_at}
use Rattle.run_view.specs.Run.{items_in, reply_items, run_items}
use Rattle.run_view.specs.View.{interface_at, left_by, left_items, seen_of}
use Rattle.run_view.specs.declared.seen.Seen.{Seen}
use Rattle.run_view.proofs.Outlets.{AnswerThere, IsThere, LeaveThere, answer_there}

-- ---- what is sent in all that was seen

abbrev sent_in_reply : ℕ → Option Answer → List Sending
sent_in_reply moment (Some a) = sent_by moment a
sent_in_reply moment None = []

abbrev sent_in : Sight → List Sending
sent_in s = sent_in_reply s.event.moment s.reply

one_grown : (told : Bool) (changes : List Change) (n number : ℕ) (ss : List Sending) (text : List ℕ) (s : State) (e : Event) (a : Answer)
    → (lines : List ℕ) × (cond told (with_event changes number (holding n ss text) e a) (holding n ss text)
    ≡ holding n (ss ++ sent_in (cond told (answered (due s number e) a) (untold (due s number e)))) lines)
one_grown true changes n number ss text s e a = (text ++ line_of changes number (e, a), event_more changes n number ss text e a)
one_grown false changes n number ss text s e a = (text, ap (λ (all : List Sending). holding n all text) (sym (append-nil ss)))

-- outputs grow by it
grown : (segments : Segments) (changes : List Change) (n count : ℕ) (s : State) (ss : List Sending) (text : List ℕ) (es : List Event)
    → (lines : List ℕ) × (with_events_among segments changes count s (holding n ss text) es
    ≡ holding n (ss ++ flat_map sent_in (sights segments changes s count es)) lines)
grown segments changes n count s ss text [] = (text, ap (λ (all : List Sending). holding n all text) (sym (append-nil ss)))
grown segments changes n count s ss text (e ∷ es) =
    let event = event_of changes e in
    let sight = sight_among segments changes s (count + 1) e in
    let next = after_among segments s event in
    let one = one_grown (is_told segments s event) changes n (count + 1) ss text s e (answer s event) in
    let rest = grown segments changes n (count + 1) next (ss ++ sent_in sight) one.0 es in (
      rest.0,
      ap (λ (o : Outputs). with_events_among segments changes (count + 1) next o es) one.1 ∙ rest.1
          ∙ ap (λ (all : List Sending). holding n all rest.0) (append_assoc ss (sent_in sight) (flat_map sent_in (sights segments changes next (count + 1) es))),
    )

-- ---- at its ports, and at remotes

abbrev ReplyThere : ℕ → Option Answer → Type 0
ReplyThere n (Some a) = AnswerThere n a
ReplyThere n None = ⊤

abbrev SightThere : ℕ → Sight → Type 0
SightThere n s = ReplyThere n s.reply

sights_there : (n : ℕ) (segments : Segments) (changes : List Change) (s : State) (count : ℕ) (es : List Event) → length s.bridges.settings.ports.ports ≡ n
    → AllByRecursion (SightThere n) (sights segments changes s count es)
sights_there n segments changes s count [] many = tt
sights_there n segments changes s count (e ∷ es) many =
    let event = event_of changes e in
    (by (is_told segments s event), sights_there n segments changes (after_among segments s event) (count + 1) es (ports_stay_among segments s event ∙ many))
  where
    by : (told : Bool) → SightThere n (cond told (answered (due s (count + 1) e) (answer s (event_of changes e))) (untold (due s (count + 1) e)))
    by true = subst (λ (k : ℕ). AnswerThere k (answer s (event_of changes e))) many (answer_there s (event_of changes e))
    by false = tt

-- ---- the records of an interface

listed : (o : Option Sending) (others : List Sending) → option_to_list o ++ others ≡ cons_option o others
listed None others = refl
listed (Some s) others = refl

module _ (q ports : ℕ) (passes : Sending → Bool) (is : (s : Sending) → IsThere ports s.place → passes s ≡ (q == interface_at ports s.place)) where
  abbrev records : List Sending → List Record
  records ss = map record_of (filter passes ss)

  records_append : (xs ys : List Sending) → records (xs ++ ys) ≡ records xs ++ records ys
  records_append xs ys = ap (map record_of) (filter-append passes xs ys) ∙ map-append record_of (filter passes xs) (filter passes ys)

  one_left : (seen : Seen) (two : Bool) (o : Sent) (r : Result (List ℕ) Reason) → o.sent ≡ r → IsThere ports o.place
      → flat_map (left_at q) (left_by ports seen two o r) ≡ records (option_to_list (sending_of seen.origin.moment o))
  one_left seen two o (Ok octets) e there = rw e (by (q == interface_at ports o.place) (passes s) (is s there))
    where
      s : Sending
      s = record { moment = seen.origin.moment; place = o.place; octets = octets }

      by : (b c : Bool) → c ≡ b → cond b (record_of s ∷ []) [] ++ [] ≡ map record_of (cond c (s ∷ []) [])
      by true true same = refl
      by true false same = absurd cc
      by false true same = absurd cc
      by false false same = refl
  one_left seen two o (Err reason) e there = rw e refl

  outcomes_left : (seen : Seen) (two : Bool) (outcomes : List Sent) → LeaveThere ports outcomes
      → flat_map (left_at q) (flat_map (left_items ports seen two) outcomes) ≡ records (sendings_of seen.origin.moment outcomes)
  outcomes_left seen two [] there = refl
  outcomes_left seen two (o ∷ os) there =
      let first = option_to_list (sending_of seen.origin.moment o) in
      let rest = sendings_of seen.origin.moment os in
      flat_map-append (left_at q) (left_items ports seen two o) (flat_map (left_items ports seen two) os)
      ∙ ap (λ (t : List Record). t ++ flat_map (left_at q) (flat_map (left_items ports seen two) os)) (one_left seen two o o.sent refl there.0)
      ∙ ap (λ (t : List Record). records first ++ t) (outcomes_left seen two os there.1)
      ∙ sym (records_append first rest) ∙ ap records (listed (sending_of seen.origin.moment o) rest)

  reply_left : (changes : List TimedChange) (number : ℕ) (e : Event) (r : Option Answer) → ReplyThere ports r
      → flat_map (left_at q) (reply_items ports changes number e r) ≡ records (sent_in_reply e.moment r)
  reply_left changes number e (Some (Decided d)) there = outcomes_left (seen_of ports changes number e) d.two_tunnels d.outcomes there
  reply_left changes number e (Some (Replied fault)) there = refl
  reply_left changes number e None there = refl

  seen_left : (changes : List TimedChange) (seen : List Sight) → AllByRecursion (SightThere ports) seen
      → flat_map (left_at q) (run_items ports changes seen) ≡ records (flat_map sent_in seen)
  seen_left changes [] there = refl
  seen_left changes (s ∷ seen) there =
      flat_map-append (left_at q) (items_in ports changes s) (run_items ports changes seen)
      ∙ ap (λ (t : List Record). t ++ flat_map (left_at q) (run_items ports changes seen)) (reply_left changes s.number s.event s.reply there.0)
      ∙ ap (λ (t : List Record). records (sent_in s) ++ t) (seen_left changes seen there.1)
      ∙ sym (records_append (sent_in s) (flat_map sent_in seen))

-- ---- by numbers of ports and interfaces

same_number : (p port : ℕ) → 1 ≤ p → 1 ≤ port → (p == port) ≡ (port - 1 == p - 1)
same_number p port low also = by (p == port) refl
  where
    by : (b : Bool) → (p == port) ≡ b → b ≡ (port - 1 == p - 1)
    by true same = let e = eqb-true p port same in sym (eq-eqb (port - 1) (p - 1) (omega (arith, e)))
    by false apart = sym (ne_eqb (port - 1) (p - 1) (λ e. eqb-false p port apart (omega (arith, e, low, also))))

at_port : (ports port : ℕ) → 1 ≤ port → port ≤ ports → (s : Sending) → IsThere ports s.place → is_at_port port s ≡ (port - 1 == interface_at ports s.place)
at_port ports port low high s there = go s.place there
  where
    go : (place : Place) → IsThere ports place → elim place [ Local p ↦ p == port | Remote kind addr ↦ false ] ≡ (port - 1 == interface_at ports place)
    go (Local p) is = same_number p port is.0 low
    go (Remote kind addr) is = sym (ne_eqb (port - 1) ports (λ e. omega (arith, e, low, high)))

at_underlay : (ports : ℕ) (s : Sending) → IsThere ports s.place → is_at_underlay s ≡ (ports == interface_at ports s.place)
at_underlay ports s there = go s.place there
  where
    go : (place : Place) → IsThere ports place → elim place [ Local p ↦ false | Remote kind addr ↦ true ] ≡ (ports == interface_at ports place)
    go (Local p) is = sym (ne_eqb ports (p - 1) (λ e. omega (arith, e, is.0, is.1)))
    go (Remote kind addr) is = sym (eq-eqb ports ports refl)

-- two lists by numbers of ports
each_port : (f g : ℕ → List ℕ) (ports a n : ℕ) → 1 ≤ a → a + n ≤ ports + 1 → ((port : ℕ) → 1 ≤ port → port ≤ ports → f port ≡ g port)
    → map f (range_with_len a n) ≡ map g (range_with_len a n)
each_port f g ports a zero low high same = refl
each_port f g ports a (suc n) low high same =
    ap (λ (t : List ℕ). t ∷ map f (range_with_len (a + 1) n)) (same a low (omega (arith, high)))
    ∙ ap (λ (ts : List (List ℕ)). g a ∷ ts) (each_port f g ports (a + 1) n (omega arith) (omega (arith, high)) same)

-- ---- a whole run

pub whole_left : (segments : Segments) (S : Settings) (changes : List TimedChange) (es : List Event)
    → HoldWhatLeft (length S.ports.ports)
    (run_items (length S.ports.ports) changes (sights segments (changes_of changes) (opened S) 0 es))
    (texts_behind segments changes (opened S) (empty_outputs (length S.ports.ports)) es)
whole_left segments S changes es =
    let n = length S.ports.ports in
    let cs = changes_of changes in
    let seen = sights segments cs (opened S) 0 es in
    let ss = flat_map sent_in seen in
    let there = sights_there n segments cs (opened S) 0 es refl in
    let all = grown segments cs n 0 (opened S) [] [] es in
    let whole : texts_behind segments changes (opened S) (empty_outputs n) es ≡ holding n ss all.0 =
    ap (λ (o : Outputs). with_events_among segments cs 0 (opened S) o es) (empty_holds n) ∙ all.1 in
    record {
      at_ports = ap (λ (o : Outputs). o.ports) whole
          ∙ each_port (λ port. capture_of (is_at_port port) ss) (λ port. written (flat_map (left_at (port - 1)) (run_items n changes seen))) n 1 n (omega arith) (omega arith)
          (λ port low high. sym (ap written (seen_left (port - 1) n (is_at_port port) (at_port n port low high) changes seen there)));
      at_underlay = ap (λ (o : Outputs). o.underlay) whole ∙ sym (ap written (seen_left n n is_at_underlay (at_underlay n) changes seen there));
    }
