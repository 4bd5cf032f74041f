-- A step over a record that was sent.
use Rattle.std.proofs.Common.{◌≡◌, ◌∙◌, refl, sym, ap, subst, ℕ, ◌-◌, ◌≤◌, true, false, List, [], ◌∷◌, ◌++◌, arith, Option, Some, None, IfSome, Result, Ok, Err}
use Rattle.pcap.specs.Record.{Record}
use Rattle.pcap.specs.Source.{Stream, lent}
use Rattle.capture_compare.specs.Sifted.{IsSifted, Sifting}
use Rattle.record_match.specs.Window.{at_moment}
use Rattle.record_match.specs.declared.clock.Clock.{Clock}
use Rattle.capture_compare.specs.Clocked.{AreBefore, AreUpTo, Seen, before, latest, on_clock, received_by, seen_at}
use Rattle.capture_compare.specs.Compared.{AllHadRoom, AreCounts, has_room_for, records_in, takes}
use Rattle.capture_compare.specs.Turns.{Amidst, Fetches, HasLent, Stands, StandsBy, Steps, Stopped, Waits, turn_of}
use Rattle.capture_compare.specs.declared.coming.Coming.{Coming}
use Rattle.capture_compare.specs.declared.turn.Turn.TheVariants as turns
use Rattle.capture_compare.specs.declared.fault.CompareFault.{CompareFault}
use Rattle.capture_compare.specs.declared.fault.CompareFault.TheVariants as faults
use Rattle.capture_compare.specs.declared.fault.Side.{Side}
use Rattle.capture_compare.specs.declared.fault.Side.TheVariants as sides
use Rattle.capture_compare.proofs.Clocking.{before-front, before-later, clock-one, latest-one, room-one, up-to-one}
use Rattle.capture_compare.proofs.Standing.{turn-sent, waits-parts, splits, starts-at, none-waits, room-later, counts-of, room-is}
use Rattle.capture_compare.proofs.Telling.{AfterSent, sent-stops}
use Rattle.capture_compare.specs.declared.carried.key.Manner.{Manner}
use Rattle.capture_compare.specs.Key.{told_by}

-- the next one waits
pub waits-by : (manner : Manner) (side : Side) (delay : ℕ) (start now : Stream) (rs : List Record) (c : Coming) (m : ℕ) → c.next ≡ Some m → Stands manner side delay start now rs c → Waits manner delay start now rs c.fetched m
waits-by manner side delay start now rs c m e h = subst (λ (o : Option ℕ). StandsBy manner side delay start now rs c.fetched o) e h.next

-- what is known where a record that was sent comes next
pub record SendsNext (manner : Manner) (clock : Clock) (s0 s : Stream) (receiving : Coming) (sent received : List Record) (count m : ℕ) : Type 0 where
  pub waits : Waits manner clock.sent_delay s0 s sent count m
  pub no_earlier : IfSome receiving.next (λ k. m ≤ k)
  pub early : AreBefore m (on_clock manner clock.received_delay received)

pub sends-next : (manner : Manner) (clock : Clock) (s0 r0 s r : Stream) (sending receiving : Coming) (c : Sifting) (h : Amidst manner clock s0 r0 s r sending receiving c) (m : ℕ) → turn_of sending.next receiving.next ≡ turns.Sent m
    → SendsNext manner clock s0 s receiving h.sent h.received sending.fetched m × (h.now ≤ m)
sends-next manner clock s0 r0 s r sending receiving c h m turn =
    let is = turn-sent sending.next receiving.next m turn in
    let later = subst (λ (o : Option ℕ). IfSome o (λ m. (h.now ≤ m) × AreBefore m (on_clock manner clock.received_delay h.received))) is.0 h.sent_later in
    (record { waits = waits-by manner sides.Sent clock.sent_delay s0 s h.sent sending m is.0 h.sent_stands; no_earlier = is.1; early = later.1 }, later.0)

pub only-up : (next : Option ℕ) (now : ℕ) (S : List Seen) → IfSome next (λ m. (now ≤ m) × AreUpTo m S) → IfSome next (λ m. AreUpTo m S)
only-up None now S h = tt
only-up (Some k) now S h = h.1

-- what a step answers for a record that was sent and for which there is no room
pub step-full : (manner : Manner) (clock : Clock) (s0 r0 s r : Stream) (sending receiving : Coming) (c d : Sifting) (m : ℕ) (x : Record) → Amidst manner clock s0 r0 s r sending receiving c → turn_of sending.next receiving.next ≡ turns.Sent m
    → lent s.standing ≡ Some x → clock.sent_delay ≤ m → takes (at_moment m c.window) (told_by manner x) ≡ false
    → ((S R : List Seen) (now : ℕ) → IsSifted c S R now → now ≤ m → IsSifted d S R m) → d.window.within ≡ c.window.within
    → Stopped manner clock s0 r0 d (Err (faults.Full (m - clock.sent_delay)))
step-full manner clock s0 r0 s r sending receiving c d m x h turn lends late full compared same = λ sent received e f.
    let next = sends-next manner clock s0 r0 s r sending receiving c h m turn in
    let known = next.0 in
    let is : known.waits.next ≡ x = let a = known.waits.lends in cc in
    let S = on_clock manner clock.sent_delay h.sent in
    let R = on_clock manner clock.received_delay h.received in
    let theirs = splits manner sides.Received clock.received_delay r0 r h.received receiving h.received_stands received f in
    let mine = waits-parts manner clock.sent_delay s0 s h.sent sending.fetched m known.waits sent e in
    let front : before m (on_clock manner clock.received_delay (records_in received)) ≡ R =
    ap (λ (l : List Seen). before m l) theirs.parts ∙ before-front m R theirs.behind known.early (starts-at receiving.next theirs.behind m theirs.starts known.no_earlier) in
    let had : has_room_for clock.within S R (seen_at manner m known.waits.next) ≡ false =
    room-is manner clock.within h.now m c S R known.waits.next false h.compared next.1 h.within_is (ap (λ (x : Record). takes (at_moment m c.window) (told_by manner x)) is ∙ full) in
    record {
      front = S;
      here = seen_at manner m known.waits.next;
      behind = mine.0;
      parts = mine.1;
      moment_is = omega (arith, late);
      counts = subst (λ (l : List Seen). AreCounts clock.within S l d) (sym front) (counts-of clock.within m d S R (compared S R h.now h.compared next.1) (same ∙ h.within_is));
      room = subst (λ (l : List Seen). AllHadRoom clock.within l [] S) (sym theirs.parts)
          (room-later clock.within R S theirs.behind receiving.next h.room theirs.starts (only-up receiving.next h.now S h.received_later));
      full = ap (λ (l : List Seen). has_room_for clock.within S l (seen_at manner m known.waits.next)) front ∙ had;
      first = λ g. theirs.no_fault (none-waits receiving.next R theirs.behind theirs.starts (sym front ∙ g ∙ theirs.parts));
    }

-- behind a record that was sent
pub record SentNow (manner : Manner) (clock : Clock) (s0 r0 s r : Stream) (receiving : Coming) (c : Sifting) (sent received : List Record) (m : ℕ) : Type 0 where
  pub compared : IsSifted c (on_clock manner clock.sent_delay sent) (on_clock manner clock.received_delay received) m
  pub within_is : c.window.within ≡ clock.within
  pub latest_is : latest (on_clock manner clock.sent_delay sent) ≡ m
  pub early : AreBefore m (on_clock manner clock.received_delay received)
  pub room : AllHadRoom clock.within (on_clock manner clock.received_delay received) [] (on_clock manner clock.sent_delay sent)
  pub received_stands : Stands manner sides.Received clock.received_delay r0 r received receiving
  pub received_later : IfSome receiving.next (λ k. (m ≤ k) × AreUpTo k (on_clock manner clock.sent_delay sent))

pub up-to-next : (next : Option ℕ) (now m : ℕ) (S : List Seen) (x : Seen) → x.moment ≡ m → IfSome next (λ k. (now ≤ k) × AreUpTo k S) → IfSome next (λ k. m ≤ k) → IfSome next (λ k. (m ≤ k) × AreUpTo k (S ++ x ∷ []))
up-to-next None now m S x is h g = tt
up-to-next (Some k) now m S x is h g = (g, up-to-one k S x h.1 (omega (arith, g, is)))

pub sent-now : (manner : Manner) (clock : Clock) (s0 r0 s r : Stream) (sending receiving : Coming) (c d : Sifting) (m : ℕ) (h : Amidst manner clock s0 r0 s r sending receiving c) → turn_of sending.next receiving.next ≡ turns.Sent m
    → ((x : Record) → lent s.standing ≡ Some x → takes (at_moment m c.window) (told_by manner x) ≡ true)
    → ((x : Record) (S R : List Seen) (now : ℕ) → lent s.standing ≡ Some x → IsSifted c S R now → now ≤ m → AreBefore m R → IsSifted d (S ++ seen_at manner m x ∷ []) R m) → d.window.within ≡ c.window.within
    → (x : Record) × (lent s.standing ≡ Some x) × HasLent s0 s (h.sent ++ x ∷ []) sending.fetched × SentNow manner clock s0 r0 s r receiving d (h.sent ++ x ∷ []) h.received m
sent-now manner clock s0 r0 s r sending receiving c d m h turn had compared same =
    let next = sends-next manner clock s0 r0 s r sending receiving c h m turn in
    let known = next.0 in
    let x = known.waits.next in
    let S = on_clock manner clock.sent_delay h.sent in
    let R = on_clock manner clock.received_delay h.received in
    let now_is : on_clock manner clock.sent_delay (h.sent ++ x ∷ []) ≡ S ++ seen_at manner m x ∷ [] = clock-one manner clock.sent_delay h.sent x m known.waits.moment_is in (
      x,
      known.waits.lends,
      known.waits.taken,
      record {
        compared = subst (λ (l : List Seen). IsSifted d l R m) (sym now_is) (compared x S R h.now known.waits.lends h.compared next.1 known.early);
        within_is = same ∙ h.within_is;
        latest_is = ap (λ (l : List Seen). latest l) now_is ∙ latest-one S (seen_at manner m x);
        early = known.early;
        room = subst (λ (l : List Seen). AllHadRoom clock.within R [] l) (sym now_is)
            (room-one clock.within R S (seen_at manner m x) h.room known.early (room-is manner clock.within h.now m c S R x true h.compared next.1 h.within_is (had x known.waits.lends)));
        received_stands = h.received_stands;
        received_later = subst (λ (l : List Seen). IfSome receiving.next (λ k. (m ≤ k) × AreUpTo k l)) (sym now_is)
            (up-to-next receiving.next h.now m S (seen_at manner m x) refl h.received_later known.no_earlier);
      },
    )

pub only-later : (next : Option ℕ) (m : ℕ) (S : List Seen) → IfSome next (λ k. (m ≤ k) × AreUpTo k S) → IfSome next (λ k. m ≤ k)
only-later None m S h = tt
only-later (Some k) m S h = h.0

pub after-sent : (manner : Manner) (clock : Clock) (s0 r0 s r : Stream) (receiving : Coming) (c : Sifting) (sent received : List Record) (m : ℕ) → SentNow manner clock s0 r0 s r receiving c sent received m
    → (text : List ℕ) → r0.supply.rest ≡ Some text → AfterSent clock text c (on_clock manner clock.sent_delay sent) (on_clock manner clock.received_delay (records_in text))
after-sent manner clock s0 r0 s r receiving c sent received m h text e =
    let S = on_clock manner clock.sent_delay sent in
    let R = on_clock manner clock.received_delay received in
    let theirs = splits manner sides.Received clock.received_delay r0 r received receiving h.received_stands text e in
    let front : received_by S (on_clock manner clock.received_delay (records_in text)) ≡ R =
    ap (λ (n : ℕ). before n (on_clock manner clock.received_delay (records_in text))) h.latest_is ∙ ap (λ (l : List Seen). before m l) theirs.parts
    ∙ before-front m R theirs.behind h.early (starts-at receiving.next theirs.behind m theirs.starts (only-later receiving.next m S h.received_later)) in
    record {
      counts = subst (λ (l : List Seen). AreCounts clock.within S l c) (sym front) (counts-of clock.within m c S R h.compared h.within_is);
      room = subst (λ (l : List Seen). AllHadRoom clock.within l [] S) (sym theirs.parts)
          (room-later clock.within R S theirs.behind receiving.next h.room theirs.starts (only-up receiving.next m S h.received_later));
      first = λ _ g. theirs.no_fault (none-waits receiving.next R theirs.behind theirs.starts (sym front ∙ g ∙ theirs.parts));
    }

-- the moment of the next one isn't earlier
pub next-later : (manner : Manner) (side : Side) (delay : ℕ) (start now : Stream) (rs : List Record) (c : Coming) (R : List Seen) (m : ℕ) → Stands manner side delay start now rs c → latest (on_clock manner delay rs) ≡ m → (k : ℕ) → c.next ≡ Some k → m ≤ k
next-later manner side delay start now rs c R m h is k e = let w = waits-by manner side delay start now rs c k e h in let at = w.moment_is in omega (arith, at, is)

pub if-some : (P : ℕ → Type 0) (next : Option ℕ) → ((k : ℕ) → next ≡ Some k → P k) → IfSome next P
if-some P None h = tt
if-some P (Some k) h = h k refl

pub step-sent : (manner : Manner) (clock : Clock) (s0 r0 s r : Stream) (sending receiving : Coming) (c : Sifting) (sent received : List Record) (m : ℕ) (result : Result (Unit {0}) CompareFault) → {old : Stream}
    → SentNow manner clock s0 r0 old r receiving c sent received m → Fetches manner sides.Sent clock.sent_delay s0 s sent sending result → Steps manner clock s0 r0 s r sending receiving c result
step-sent manner clock s0 r0 s r sending receiving c sent received m (Ok x) h stands = record {
  sent = sent;
  received = received;
  now = m;
  sent_stands = stands;
  received_stands = h.received_stands;
  within_is = h.within_is;
  compared = h.compared;
  room = h.room;
  sent_later = if-some (λ k. (m ≤ k) × AreBefore k (on_clock manner clock.received_delay received)) sending.next
      (λ k e. let le = next-later manner sides.Sent clock.sent_delay s0 s sent sending [] m stands h.latest_is k e in (le, before-later m k (on_clock manner clock.received_delay received) le h.early));
  received_later = h.received_later;
}
step-sent manner clock s0 r0 s r sending receiving c sent received m (Err fault) h stops = λ sent_text received_text e f.
    sent-stops manner clock sent_text received_text c sent (on_clock manner clock.received_delay (records_in received_text)) s0 fault e stops
    (after-sent manner clock s0 r0 _ r receiving c sent received m h received_text f)
