-- The beginning and the end of a comparison, and its steps by what their calls tell.
use Rattle.std.proofs.Common.{◌≡◌, ◌∙◌, refl, sym, ap, subst, ℕ, ◌+◌, ◌-◌, ◌^◌, ◌≤◌, ◌<◌, Bool, true, false, List, [], ◌∷◌, ◌++◌, length, length-append, arith, Option, Some, None, Result, Ok, Err}
use Rattle.std.specs.Prelude.{IsSome}
use Rattle.pcap.specs.Record.{Record}
use Rattle.pcap.specs.Source.{Stream, ends_cut, lent, most_left}
use Rattle.capture_compare.specs.Sifted.{IsSifted, Sifting, sifting}
use Rattle.record_match.specs.Compared.{Counted}
use Rattle.record_match.specs.Match.{Record as Matched, matched, received_count}
use Rattle.record_match.specs.Settled.{Fact}
use Rattle.record_match.specs.Window.{at_moment}
use Rattle.record_match.specs.declared.clock.Clock.{Clock}
use Rattle.record_match.proofs.Meeting.{each_is_told}
use Rattle.capture_compare.specs.Clocked.{AreBefore, AreUpTo, Seen, kept, latest, on_clock, seen_at}
use Rattle.capture_compare.specs.Compared.{AllHadRoom, AreCounts, is_cut_in, records_in, takes}
use Rattle.capture_compare.specs.Turns.{Amidst, Fetches, HasLent, IsDone, MayReceive, MaySend, Stands, StandsBy, Steps, Stopped, StopsBehind, turn_of, unless_full}
use Rattle.capture_compare.specs.declared.aside.Aside.{Aside}
use Rattle.capture_compare.specs.declared.coming.Coming.{Coming}
use Rattle.capture_compare.specs.declared.turn.Turn.TheVariants as turns
use Rattle.capture_compare.specs.declared.fault.CompareFault.{CompareFault}
use Rattle.capture_compare.specs.declared.fault.CompareFault.TheVariants as faults
use Rattle.capture_compare.specs.declared.fault.Side.{Side}
use Rattle.capture_compare.specs.declared.fault.Side.TheVariants as sides
use Rattle.capture_compare.proofs.Clocking.{before-zero, latest-one, timed-length}
use Rattle.capture_compare.proofs.Standing.{turn-done, splits, none-waits, counts-of}
use Rattle.capture_compare.proofs.Telling.{sent-stops, received-stops}
use Rattle.capture_compare.proofs.Sending.{sends-next, step-full, sent-now, if-some, step-sent}
use Rattle.capture_compare.proofs.Receiving.{receives-next, received-now, step-received}
use Rattle.capture_compare.specs.declared.carried.key.Manner.{Manner}
use Rattle.capture_compare.specs.Key.{told_by}

-- ---- the beginning and the end

pub not-begun : (manner : Manner) (clock : Clock) (s0 r0 : Stream) (c : Sifting) (fault : CompareFault) → IsSifted c [] [] 0 → c.window.within ≡ clock.within → StopsBehind sides.Sent s0 [] fault → Stopped manner clock s0 r0 c (Err fault)
not-begun manner clock s0 r0 c fault h is stops = λ sent received e f.
    let R = on_clock manner clock.received_delay (records_in received) in
    sent-stops manner clock sent received c [] R s0 fault e stops (record {
      counts = subst (λ (l : List Seen). AreCounts clock.within [] l c) (sym (before-zero R)) (counts-of clock.within 0 c [] [] h is);
      room = tt;
      first = λ some _. absurd (some refl);
    })

pub not-begun-behind : (manner : Manner) (clock : Clock) (s0 r0 s : Stream) (sending : Coming) (c : Sifting) (fault : CompareFault) → IsSifted c [] [] 0 → c.window.within ≡ clock.within
    → Stands manner sides.Sent clock.sent_delay s0 s [] sending → StopsBehind sides.Received r0 [] fault → Stopped manner clock s0 r0 c (Err fault)
not-begun-behind manner clock s0 r0 s sending c fault h is stands stops = λ sent received e f.
    let theirs = splits manner sides.Sent clock.sent_delay s0 s [] sending stands sent e in
    received-stops manner clock sent received c [] (on_clock manner clock.sent_delay (records_in sent)) r0 fault f stops (record {
      counts = counts-of clock.within 0 c [] [] h is;
      room = λ ys _. tt;
      first = λ g. theirs.no_fault (none-waits sending.next [] theirs.behind theirs.starts (g ∙ theirs.parts));
    })

pub both-begun : (manner : Manner) (clock : Clock) (s0 r0 s r : Stream) (sending receiving : Coming) (c : Sifting) → IsSifted c [] [] 0 → c.window.within ≡ clock.within
    → Stands manner sides.Sent clock.sent_delay s0 s [] sending → Stands manner sides.Received clock.received_delay r0 r [] receiving → Amidst manner clock s0 r0 s r sending receiving c
both-begun manner clock s0 r0 s r sending receiving c h is sent received = record {
  sent = [];
  received = [];
  now = 0;
  sent_stands = sent;
  received_stands = received;
  within_is = is;
  compared = h;
  room = tt;
  sent_later = if-some (λ k. (0 ≤ k) × AreBefore k []) sending.next (λ k e. (omega arith, tt));
  received_later = if-some (λ k. (0 ≤ k) × AreUpTo k []) receiving.next (λ k e. (omega arith, tt));
}

-- where none waits both are done
both-done : (manner : Manner) (clock : Clock) (s0 r0 s r : Stream) (sending receiving : Coming) (c : Sifting) (h : Amidst manner clock s0 r0 s r sending receiving c) → turn_of sending.next receiving.next ≡ turns.Done
    → IsDone sides.Sent s0 s h.sent × IsDone sides.Received r0 r h.received
both-done manner clock s0 r0 s r sending receiving c h turn =
    let none = turn-done sending.next receiving.next turn in (
      subst (λ (o : Option ℕ). StandsBy manner sides.Sent clock.sent_delay s0 s h.sent sending.fetched o) none.0 h.sent_stands.next,
      subst (λ (o : Option ℕ). StandsBy manner sides.Received clock.received_delay r0 r h.received receiving.fetched o) none.1 h.received_stands.next,
    )

pub all-compared : (manner : Manner) (clock : Clock) (s0 r0 s r : Stream) (sending receiving : Coming) (c : Sifting) → Amidst manner clock s0 r0 s r sending receiving c → turn_of sending.next receiving.next ≡ turns.Done → Stopped manner clock s0 r0 c (Ok tt)
all-compared manner clock s0 r0 s r sending receiving c h turn = λ sent received e f.
    let done = both-done manner clock s0 r0 s r sending receiving c h turn in
    let mine = done.0.all sent e in
    let theirs = done.1.all received f in
    let S = ap (λ (l : List Record). on_clock manner clock.sent_delay l) (sym mine.0) in
    let R = ap (λ (l : List Record). on_clock manner clock.received_delay l) (sym theirs.0) in
    record {
      no_sent_fault = mine.1;
      no_received_fault = theirs.1;
      counts = subst (λ (l : List Seen). AreCounts clock.within l (on_clock manner clock.received_delay (records_in received)) c) S
          (subst (λ (l : List Seen). AreCounts clock.within (on_clock manner clock.sent_delay h.sent) l c) R
          (counts-of clock.within h.now c (on_clock manner clock.sent_delay h.sent) (on_clock manner clock.received_delay h.received) h.compared h.within_is));
      room = subst (λ (l : List Seen). AllHadRoom clock.within (on_clock manner clock.received_delay (records_in received)) [] l) S
          (subst (λ (l : List Seen). AllHadRoom clock.within l [] (on_clock manner clock.sent_delay h.sent)) R h.room);
    }

-- and then it is known which ends within a record
pub all-cut : (manner : Manner) (clock : Clock) (s0 r0 s r : Stream) (sending receiving : Coming) (c : Sifting) → Amidst manner clock s0 r0 s r sending receiving c → turn_of sending.next receiving.next ≡ turns.Done
    → (sent received : List ℕ) → s0.supply.rest ≡ Some sent → r0.supply.rest ≡ Some received → (ends_cut s.standing ≡ is_cut_in sent) × (ends_cut r.standing ≡ is_cut_in received)
all-cut manner clock s0 r0 s r sending receiving c h turn = λ sent received e f.
    let done = both-done manner clock s0 r0 s r sending receiving c h turn in
    ((done.0.all sent e).2, (done.1.all received f).2)

-- ---- counts fit

pub sent-fits : (manner : Manner) (clock : Clock) (s0 r0 s r : Stream) (sending receiving : Coming) (c : Counted) (log : List Fact) (a : Aside) (m : ℕ) → Amidst manner clock s0 r0 s r sending receiving (sifting c log a) → turn_of sending.next receiving.next ≡ turns.Sent m → most_left s0 < 2 ^ 64
    → MaySend s sending c a m
sent-fits manner clock s0 r0 s r sending receiving c log a m h turn few =
    let known = (sends-next manner clock s0 r0 s r sending receiving (sifting c log a) h m turn).0 in
    let taken = known.waits.taken in
    let longer = length-append h.sent (known.waits.next ∷ []) in
    let sent : c.sent + a.sent ≡ length (on_clock manner clock.sent_delay h.sent) = h.compared.sent_aside_is in
    let many = timed-length manner clock.sent_delay 0 h.sent in
    record {
      lends = subst (λ (o : Option Record). IsSome o) (sym known.waits.lends) refl;
      fetched = omega (arith, taken.spent, taken.count_is, longer, few);
      sent = omega (arith, taken.spent, longer, few, sent, many);
      aside = omega (arith, taken.spent, longer, few, sent, many);
      delay = omega (arith, known.waits.moment_is, h.sent_stands.delay_is);
    }

pub fewer-both : (within : ℕ) (S R : List Matched) → received_count (matched within S R) ≤ length R
fewer-both within S R = let all = each_is_told within S R in omega (arith, all)

pub received-fits : (manner : Manner) (clock : Clock) (s0 r0 s r : Stream) (sending receiving : Coming) (c : Counted) (log : List Fact) (a : Aside) (m : ℕ) → Amidst manner clock s0 r0 s r sending receiving (sifting c log a) → turn_of sending.next receiving.next ≡ turns.Received m → most_left r0 < 2 ^ 64
    → MayReceive r receiving c a
received-fits manner clock s0 r0 s r sending receiving c log a m h turn few =
    let known = (receives-next manner clock s0 r0 s r sending receiving (sifting c log a) h m turn).0 in
    let taken = known.waits.taken in
    let longer = length-append h.received (known.waits.next ∷ []) in
    let received : c.received + a.received ≡ length (on_clock manner clock.received_delay h.received) = h.compared.received_aside_is in
    let taken_in : c.received ≡ length (kept (on_clock manner clock.received_delay h.received)) = h.compared.compared.received_is in
    let met = fewer-both c.window.within (kept (on_clock manner clock.sent_delay h.sent)) (kept (on_clock manner clock.received_delay h.received)) in
    let both : c.both ≡ received_count (matched c.window.within (kept (on_clock manner clock.sent_delay h.sent)) (kept (on_clock manner clock.received_delay h.received))) = h.compared.compared.both_is in
    let many = timed-length manner clock.received_delay 0 h.received in
    record {
      lends = subst (λ (o : Option Record). IsSome o) (sym known.waits.lends) refl;
      fetched = omega (arith, taken.spent, taken.count_is, longer, few);
      received = omega (arith, taken.spent, longer, few, received, many);
      both = omega (arith, taken.spent, longer, few, received, many, taken_in, both, met);
      aside = omega (arith, taken.spent, longer, few, received, many);
    }

pub room-by : (q : Bool) (m : ℕ) → ◌≡◌ {A = Result (Unit {0}) CompareFault} (Ok tt) (unless_full q m) → q ≡ true
room-by true m e = refl
room-by false m e = absurd cc

pub full-by : (q : Bool) (m : ℕ) (fault : CompareFault) → ◌≡◌ {A = Result (Unit {0}) CompareFault} (Err fault) (unless_full q m) → (q ≡ false) × (fault ≡ faults.Full m)
full-by true m fault e = absurd cc
full-by false m fault e = (refl, cc)

-- a step that stops at a record that was sent, by what taking it tells
pub step-full-by : (manner : Manner) (clock : Clock) (s0 r0 s r : Stream) (sending receiving : Coming) (c d : Sifting) (m delay : ℕ) (fault : CompareFault) → Amidst manner clock s0 r0 s r sending receiving c → turn_of sending.next receiving.next ≡ turns.Sent m
    → delay ≡ sending.delay → delay ≤ m
    → ((x : Record) → lent s.standing ≡ Some x → ◌≡◌ {A = Result (Unit {0}) CompareFault} (Err fault) (unless_full (takes (at_moment m c.window) (told_by manner x)) (m - delay)))
    → ((S R : List Seen) (now : ℕ) → IsSifted c S R now → now ≤ m → IsSifted d S R m) → d.window.within ≡ c.window.within
    → Stopped manner clock s0 r0 d (Err fault)
step-full-by manner clock s0 r0 s r sending receiving c d m delay fault h turn is late answer compared same =
    let known = (sends-next manner clock s0 r0 s r sending receiving c h m turn).0 in
    let x = known.waits.next in
    let told = full-by (takes (at_moment m c.window) (told_by manner x)) (m - delay) fault (answer x known.waits.lends) in
    let own : delay ≡ clock.sent_delay = is ∙ h.sent_stands.delay_is in
    let there : clock.sent_delay ≤ m = subst (λ (n : ℕ). n ≤ m) own late in
    subst (λ (f : CompareFault). Stopped manner clock s0 r0 d (Err f)) (sym (told.1 ∙ ap (λ (n : ℕ). faults.Full (m - n)) own))
    (step-full manner clock s0 r0 s r sending receiving c d m x h turn known.waits.lends there told.0 compared same)

-- a step over a record that was sent, by what taking it and fetching the next one tell
pub step-sent-by : (manner : Manner) (clock : Clock) (s0 r0 s t r : Stream) (sending after receiving : Coming) (c d : Sifting) (m n : ℕ) (result : Result (Unit {0}) CompareFault) → Amidst manner clock s0 r0 s r sending receiving c
    → turn_of sending.next receiving.next ≡ turns.Sent m
    → ((x : Record) → lent s.standing ≡ Some x → ◌≡◌ {A = Result (Unit {0}) CompareFault} (Ok tt) (unless_full (takes (at_moment m c.window) (told_by manner x)) n))
    → ((x : Record) (S R : List Seen) (now : ℕ) → lent s.standing ≡ Some x → IsSifted c S R now → now ≤ m → AreBefore m R → IsSifted d (S ++ seen_at manner m x ∷ []) R m) → d.window.within ≡ c.window.within
    → ((start : Stream) (rs : List Record) → HasLent start s rs sending.fetched → m ≡ latest (on_clock manner sending.delay rs) → Fetches manner sending.side sending.delay start t rs after result)
    → Steps manner clock s0 r0 t r after receiving d result
step-sent-by manner clock s0 r0 s t r sending after receiving c d m n result h turn answer compared same fetched =
    let now = sent-now manner clock s0 r0 s r sending receiving c d m h turn (λ x e. room-by (takes (at_moment m c.window) (told_by manner x)) n (answer x e)) compared same in
    let rs = h.sent ++ now.0 ∷ [] in
    let late : m ≡ latest (on_clock manner sending.delay rs) = sym now.3.latest_is ∙ ap (λ (k : ℕ). latest (on_clock manner k rs)) (sym h.sent_stands.delay_is) in
    step-sent manner clock s0 r0 t r after receiving d rs h.received m result now.3
    (subst (λ (k : ℕ). Fetches manner sides.Sent k s0 t rs after result) h.sent_stands.delay_is
    (subst (λ (of : Side). Fetches manner of sending.delay s0 t rs after result) h.sent_stands.side_is (fetched s0 rs now.2 late)))

-- the same of a record that was received
pub step-received-by : (manner : Manner) (clock : Clock) (s0 r0 s r t : Stream) (sending receiving after : Coming) (c d : Sifting) (m : ℕ) (result : Result (Unit {0}) CompareFault) → Amidst manner clock s0 r0 s r sending receiving c
    → turn_of sending.next receiving.next ≡ turns.Received m
    → ((x : Record) (S R : List Seen) (now : ℕ) → lent r.standing ≡ Some x → IsSifted c S R now → now ≤ m → IsSifted d S (R ++ seen_at manner m x ∷ []) m) → d.window.within ≡ c.window.within
    → ((start : Stream) (rs : List Record) → HasLent start r rs receiving.fetched → m ≡ latest (on_clock manner receiving.delay rs) → Fetches manner receiving.side receiving.delay start t rs after result)
    → Steps manner clock s0 r0 s t sending after d result
step-received-by manner clock s0 r0 s r t sending receiving after c d m result h turn compared same fetched =
    let now = received-now manner clock s0 r0 s r sending receiving c d m h turn compared same in
    let rs = h.received ++ now.0 ∷ [] in
    let known = now.2 in
    let is : latest (on_clock manner clock.received_delay rs) ≡ m = ap (λ (l : List Seen). latest l) known.last_is ∙ latest-one known.front known.last ∙ known.moment_is in
    let late : m ≡ latest (on_clock manner receiving.delay rs) = sym is ∙ ap (λ (k : ℕ). latest (on_clock manner k rs)) (sym h.received_stands.delay_is) in
    step-received manner clock s0 r0 s t sending after d h.sent rs m result known
    (subst (λ (k : ℕ). Fetches manner sides.Received k r0 t rs after result) h.received_stands.delay_is
    (subst (λ (of : Side). Fetches manner of receiving.delay r0 t rs after result) h.received_stands.side_is (fetched r0 rs now.1 late)))

-- ---- what the first calls tell

pub stops-as : (c : Coming) (side : Side) (delay : ℕ) (start : Stream) (rs : List Record) (fault : CompareFault) → c ≡ record { side = side; delay = delay; fetched = 0; next = None } → StopsBehind c.side start rs fault
    → StopsBehind side start rs fault
stops-as c side delay start rs fault is h = subst (λ (of : Side). StopsBehind of start rs fault) (ap (λ (c : Coming). c.side) is) h

pub stands-as : (manner : Manner) (c d : Coming) (side : Side) (delay : ℕ) (start now : Stream) (rs : List Record) → c ≡ record { side = side; delay = delay; fetched = 0; next = None } → Stands manner c.side c.delay start now rs d
    → Stands manner side delay start now rs d
stands-as manner c d side delay start now rs is h =
    subst (λ (n : ℕ). Stands manner side n start now rs d) (ap (λ (c : Coming). c.delay) is) (subst (λ (of : Side). Stands manner of c.delay start now rs d) (ap (λ (c : Coming). c.side) is) h)
