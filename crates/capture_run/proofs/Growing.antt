-- What outputs grow to is what comes out of the whole run.
use Rattle.std.proofs.Common.{◌≡◌, ◌≢◌, ◌∙◌, refl, sym, ap, subst, ℕ, zero, suc, ◌+◌, ◌-◌, ◌==◌, ◌<◌, Bool, true, false, arith, List, [], ◌∷◌, ◌++◌, map, filter, replicate, slice_set, slice_index_or, Option, Some, None, Result, Ok, Err}
use Rattle.std.specs.List.{flat_map, range_with_len, zip}
use Rattle.std.proofs.lemmas.List.{append_assoc, append-nil, map-append}
use Rattle.std.proofs.lemmas.List.Elements.{filter-append}
use Rattle.std.proofs.lemmas.Grind.{flat_map-append}
use Rattle.std.proofs.lemmas.Bool.{ne_eqb, eq-eqb}
use Rattle.std.specs.Option.{option_to_list}
use Rattle.std.specs.List.{cons_option}
use Rattle.wire.specs.declared.ether.reason.Reason.{Reason}
use Rattle.wire.specs.declared.ip_udp.addr.Addr.{Addr}
use Rattle.wire.specs.declared.ip_udp.addr.Tunnel.{Tunnel}
use Rattle.timeline.specs.Order.{IsRising}
use Rattle.timeline.specs.Timeline.{Timeline}
use Rattle.timeline.specs.declared.timeline.Cut.{Cut}
use Rattle.endpoint_core.specs.Settings.{Settings}
use Rattle.endpoint_core.specs.Event as event
use Rattle.endpoint_core.specs.Run.{decisions}
use Rattle.endpoint_core.proofs.Runs.{answers-decisions}
use Rattle.decision_lines.specs.Lines.{cut_line}
use Rattle.filter_db.specs.declared.place.Place.{Place}
use Rattle.filter_db.specs.declared.place.Place.TheVariants.{Local, Remote}
use Rattle.pcap.specs.Written.{written, written_header, written_record}
use Rattle.timeline.specs.declared.event.Event.{Event as Happens}
use Rattle.overlay.specs.declared.settings.change.Change.{Change}
use Rattle.endpoint_core.specs.Decision.{Sent}
use Rattle.endpoint_core.specs.Step.{Answer, Decided, Replied, State, opened, answer, answers, after}
use Rattle.capture_run.specs.Sendings.{Sending, sending_of, sendings_of, sent_by, is_at_port, is_at_underlay, record_of, capture_of, port_captures, underlay_capture}
use Rattle.capture_run.specs.Outputs.{Outputs, event_of, line_of, lines_of, sendings, outputs, outputs_of}
use Rattle.capture_run.specs.Writing.{empty_outputs, put_at, with_record, with_sending, with_sent, with_all_sent, with_answer, with_event, with_events, with_cuts, with_line}

-- ---- captures

-- of these sendings, and with these lines
abbrev pub holding : ℕ → List Sending → List ℕ → Outputs
holding n ss text = record { ports = port_captures n ss; underlay = underlay_capture ss; decisions = text }

written-snoc : (rs : List _) (r : _) → written (rs ++ r ∷ []) ≡ written rs ++ written_record r
written-snoc rs r =
    ap (λ x. written_header ++ x) (flat_map-append written_record rs (r ∷ []) ∙ ap (λ x. flat_map written_record rs ++ x) (append-nil (written_record r)))
    ∙ sym (append_assoc written_header (flat_map written_record rs) (written_record r))

-- a sending that passes comes behind the others
capture-passes : (p : Sending → Bool) (ss : List Sending) (s : Sending) → p s ≡ true → capture_of p (ss ++ s ∷ []) ≡ capture_of p ss ++ written_record (record_of s)
capture-passes p ss s e =
    ap (λ x. written (map record_of x)) (filter-append p ss (s ∷ []) ∙ ap (λ x. filter p ss ++ x) (rw e refl))
    ∙ ap written (map-append record_of (filter p ss) (s ∷ []))
    ∙ written-snoc (map record_of (filter p ss)) (record_of s)

capture-fails : (p : Sending → Bool) (ss : List Sending) (s : Sending) → p s ≡ false → capture_of p (ss ++ s ∷ []) ≡ capture_of p ss
capture-fails p ss s e =
    ap (λ x. written (map record_of x)) (filter-append p ss (s ∷ []) ∙ ap (λ x. filter p ss ++ x) (rw e refl) ∙ append-nil (filter p ss))

-- two lists by number that differ at one place at most
map-same : (f g : ℕ → List ℕ) (a n : ℕ) → ((q : ℕ) → g q ≡ f q) → map g (range_with_len a n) ≡ map f (range_with_len a n)
map-same f g a zero same = refl
map-same f g a (suc n) same = rw (same a, map-same f g (a + 1) n same) refl

map-same_behind : (f g : ℕ → List ℕ) (a n j : ℕ) → j < a → ((q : ℕ) → q ≢ j → g q ≡ f q) → map g (range_with_len a n) ≡ map f (range_with_len a n)
map-same_behind f g a zero j before same = refl
map-same_behind f g a (suc n) j before same = rw (same a (λ e. omega arith), map-same_behind f g (a + 1) n j (omega arith) same) refl

-- the one is the other with a text behind that at place k
map-set_at : (f g : ℕ → List ℕ) (text : List ℕ) (a n k j : ℕ) → j ≡ a + k → ((q : ℕ) → q ≢ j → g q ≡ f q) → g j ≡ f j ++ text
    → map g (range_with_len a n) ≡ slice_set (map f (range_with_len a n)) k (slice_index_or (map f (range_with_len a n)) k [] ++ text)
map-set_at f g text a zero zero j place same more = refl
map-set_at f g text a zero (suc k) j place same more = refl
map-set_at f g text a (suc n) zero j place same more =
    let here : a ≡ j = omega arith in
    let first : g a ≡ f a ++ text = rw here more in
    rw (first, map-same_behind f g (a + 1) n j (omega arith) same) refl
map-set_at f g text a (suc n) (suc k) j place same more =
    rw (same a (λ e. omega arith), map-set_at f g text (a + 1) n k j (omega arith) same more) refl

-- ---- a sending more

-- where a port's sending goes
port_more : (n port : ℕ) (s : Sending) (ss : List Sending) → s.place ≡ Local port
    → port_captures n (ss ++ s ∷ []) ≡ put_at port (written_record (record_of s)) (port_captures n ss)
port_more n port s ss at_port = go port refl
  where
    -- it is at no other port
    elsewhere : (q : ℕ) → q ≢ port → is_at_port q s ≡ false
    elsewhere q apart = rw at_port (ne_eqb port q (λ e. apart (sym e)))

    others : (q : ℕ) → q ≢ port → capture_of (is_at_port q) (ss ++ s ∷ []) ≡ capture_of (is_at_port q) ss
    others q apart = capture-fails (is_at_port q) ss s (elsewhere q apart)

    here : is_at_port port s ≡ true
    here = rw at_port (eq-eqb port port refl)

    go : (p : ℕ) → p ≡ port → port_captures n (ss ++ s ∷ []) ≡ put_at port (written_record (record_of s)) (port_captures n ss)
    go zero e =
        let apart : (port == 0) ≡ true = eq-eqb port 0 (sym e) in
        rw apart (map-same_behind (λ q. capture_of (is_at_port q) ss) (λ q. capture_of (is_at_port q) (ss ++ s ∷ [])) 1 n port (omega arith) others)
    go (suc k) e =
        let apart : (port == 0) ≡ false = ne_eqb port 0 (λ z. absurd (omega arith)) in
        let index : port - 1 ≡ k = omega arith in
        rw (apart, index) (map-set_at (λ q. capture_of (is_at_port q) ss) (λ q. capture_of (is_at_port q) (ss ++ s ∷ [])) (written_record (record_of s)) 1 n k port (omega arith) others
        (capture-passes (is_at_port port) ss s here))

-- what goes to the underlay goes to no port
remote_more : (n : ℕ) (s : Sending) (ss : List Sending) (kind : Tunnel) (addr : Addr) → s.place ≡ Remote kind addr → port_captures n (ss ++ s ∷ []) ≡ port_captures n ss
remote_more n s ss kind addr at_remote =
    map-same (λ q. capture_of (is_at_port q) ss) (λ q. capture_of (is_at_port q) (ss ++ s ∷ [])) 1 n (λ q. capture-fails (is_at_port q) ss s (rw at_remote refl))

-- one more
sending_more : (n : ℕ) (ss : List Sending) (text : List ℕ) (s : Sending) → with_sending (holding n ss text) s ≡ holding n (ss ++ s ∷ []) text
sending_more n ss text s = go s.place refl
  where
    go : (place : Place) → s.place ≡ place → with_sending (holding n ss text) s ≡ holding n (ss ++ s ∷ []) text
    go (Local port) e =
        let under : underlay_capture (ss ++ s ∷ []) ≡ underlay_capture ss = capture-fails is_at_underlay ss s (rw e refl) in
        subst (λ place. with_record (holding n ss text) place (written_record (record_of s)) ≡ holding n (ss ++ s ∷ []) text) (sym e)
        (rw (← port_more n port s ss e, under) refl)
    go (Remote kind addr) e =
        let under : underlay_capture (ss ++ s ∷ []) ≡ underlay_capture ss ++ written_record (record_of s) = capture-passes is_at_underlay ss s (rw e refl) in
        subst (λ place. with_record (holding n ss text) place (written_record (record_of s)) ≡ holding n (ss ++ s ∷ []) text) (sym e)
        (rw (remote_more n s ss kind addr e, under) refl)

-- those of an outlet
sent_more : (n moment : ℕ) (ss : List Sending) (text : List ℕ) (x : Sent) (r : Result (List ℕ) Reason) → x.sent ≡ r
    → with_sent moment (holding n ss text) x ≡ holding n (ss ++ option_to_list (sending_of moment x)) text
sent_more n moment ss text x (Ok octets) e = rw e (sending_more n ss text (record { moment = moment; place = x.place; octets = octets }))
sent_more n moment ss text x (Err reason) e = rw (e, append-nil ss) refl

-- those of all outlets
with_all-sent : (n moment : ℕ) (ss : List Sending) (text : List ℕ) (xs : List Sent)
    → with_all_sent moment (holding n ss text) xs ≡ holding n (ss ++ sendings_of moment xs) text
with_all-sent n moment ss text [] = rw (append-nil ss) refl
with_all-sent n moment ss text (x ∷ xs) =
    ap (λ o. with_all_sent moment o xs) (sent_more n moment ss text x x.sent refl)
    ∙ with_all-sent n moment (ss ++ option_to_list (sending_of moment x)) text xs
    ∙ ap (λ all. holding n all text) (append_assoc ss (option_to_list (sending_of moment x)) (sendings_of moment xs) ∙ ap (λ more. ss ++ more) (more (sending_of moment x) (sendings_of moment xs)))
  where
    more : (o : Option Sending) (others : List Sending) → option_to_list o ++ others ≡ cons_option o others
    more None others = refl
    more (Some s) others = refl

answer_more : (n moment : ℕ) (ss : List Sending) (text : List ℕ) (a : Answer)
    → with_answer moment (holding n ss text) a ≡ holding n (ss ++ sent_by moment a) text
answer_more n moment ss text (Decided decision) = with_all-sent n moment ss text decision.outcomes
answer_more n moment ss text (Replied fault) = rw (append-nil ss) refl

-- an event more
pub event_more : (changes : List Change) (n number : ℕ) (ss : List Sending) (text : List ℕ) (e : Happens) (a : Answer)
    → with_event changes number (holding n ss text) e a ≡ holding n (ss ++ sent_by e.moment a) (text ++ line_of changes number (e, a))
event_more changes n number ss text e a = rw (answer_more n e.moment ss text a) refl

-- events, one after another
events_more : (changes : List Change) (n count : ℕ) (s : State) (ss : List Sending) (text : List ℕ) (es : List Happens)
    → let rows = zip es (answers s (map (event_of changes) es)) in
    with_events changes count s (holding n ss text) es ≡ holding n (ss ++ sendings rows) (text ++ lines_of changes count rows)
events_more changes n count s ss text [] = rw (append-nil ss, append-nil text) refl
events_more changes n count s ss text (e ∷ es) =
    let event = event_of changes e in
    let a = answer s event in
    let rows = zip es (answers (after s event) (map (event_of changes) es)) in
    ap (λ o. with_events changes (count + 1) (after s event) o es) (event_more changes n (count + 1) ss text e a)
    ∙ events_more changes n (count + 1) (after s event) (ss ++ sent_by e.moment a) (text ++ line_of changes (count + 1) (e, a)) es
    ∙ rw (append_assoc ss (sent_by e.moment a) (sendings rows), append_assoc text (line_of changes (count + 1) (e, a)) (lines_of changes (count + 1) rows)) refl

-- a run begins with headers
empty_captures : (n a : ℕ) → replicate n written_header ≡ map (λ port. capture_of (is_at_port port) []) (range_with_len a n)
empty_captures zero a = refl
empty_captures (suc n) a = rw (empty_captures n (a + 1), append-nil written_header) refl

pub empty_holds : (n : ℕ) → empty_outputs n ≡ holding n [] []
empty_holds n = rw (empty_captures n 1, append-nil written_header) refl

pub cuts_more : (o : Outputs) (cuts : List Cut) → with_cuts o cuts ≡ record o { decisions = o.decisions ++ flat_map cut_line cuts }
cuts_more o [] = rw (append-nil o.decisions) refl
cuts_more o (cut ∷ cuts) = cuts_more (with_line o (cut_line cut)) cuts ∙ rw (append_assoc o.decisions (cut_line cut) (flat_map cut_line cuts)) refl

pub rising_events : (changes : List Change) (t : ℕ) (es : List Happens) → IsRising t es → event.IsRising t (map (event_of changes) es)
rising_events changes t [] h = tt
rising_events changes t (e ∷ es) h = (h.0, rising_events changes e.moment es h.1)

-- all of a run
pub outputs_grown : (S : Settings) (changes : List Change) (n : ℕ) (timeline : Timeline) → IsRising 0 timeline.events
    → with_cuts (with_events changes 0 (opened S) (empty_outputs n) timeline.events) timeline.cuts ≡ outputs S changes n timeline
outputs_grown S changes n timeline rising =
    let es = timeline.events in
    let events = map (event_of changes) es in
    let same : answers (opened S) events ≡ decisions S [] events = answers-decisions S [] events (rising_events changes 0 es rising) in
    ap (λ o. with_cuts (with_events changes 0 (opened S) o es) timeline.cuts) (empty_holds n)
    ∙ ap (λ o. with_cuts o timeline.cuts) (events_more changes n 0 (opened S) [] [] es)
    ∙ cuts_more (holding n (sendings (zip es (answers (opened S) events))) (lines_of changes 0 (zip es (answers (opened S) events)))) timeline.cuts
    ∙ ap (λ as_answered. outputs_of changes n (zip es as_answered) timeline.cuts) same
