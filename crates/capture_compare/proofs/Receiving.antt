-- A step over a record that was received.
use Rattle.std.proofs.Common.{◌≡◌, ◌∙◌, refl, sym, ap, subst, ℕ, ◌≤◌, ◌<◌, List, [], ◌∷◌, ◌++◌, arith, Option, Some, None, IfSome, Result, Ok, Err}
use Rattle.pcap.specs.Record.{Record}
use Rattle.pcap.specs.Source.{Stream, lent}
use Rattle.capture_compare.specs.Sifted.{IsSifted, Sifting}
use Rattle.record_match.specs.declared.clock.Clock.{Clock}
use Rattle.capture_compare.specs.Clocked.{AreBefore, AreUpTo, Seen, latest, on_clock, seen_at, sent_by, up_to}
use Rattle.capture_compare.specs.Compared.{AllHadRoom, AreCounts, records_in}
use Rattle.capture_compare.specs.Turns.{Amidst, Fetches, HasLent, Stands, Steps, Waits, turn_of}
use Rattle.capture_compare.specs.declared.coming.Coming.{Coming}
use Rattle.capture_compare.specs.declared.turn.Turn.TheVariants as turns
use Rattle.capture_compare.specs.declared.fault.CompareFault.{CompareFault}
use Rattle.capture_compare.specs.declared.fault.Side.TheVariants as sides
use Rattle.capture_compare.proofs.Clocking.{StartsAt, before-one, clock-one, latest-one, room-more, sent-by-one, up-to-front, up-to-later}
use Rattle.capture_compare.proofs.Standing.{turn-received, same-moment, splits, starts-behind, none-waits, counts-of}
use Rattle.capture_compare.proofs.Telling.{AfterReceived, received-stops}
use Rattle.capture_compare.proofs.Sending.{waits-by, next-later, if-some}
use Rattle.capture_compare.specs.declared.carried.key.Manner.{Manner}

pub record ReceivesNext (manner : Manner) (clock : Clock) (r0 r : Stream) (sending : Coming) (sent received : List Record) (count m : ℕ) : Type 0 where
  pub waits : Waits manner clock.received_delay r0 r received count m
  pub later : IfSome sending.next (λ k. m < k)
  pub up : AreUpTo m (on_clock manner clock.sent_delay sent)

pub receives-next : (manner : Manner) (clock : Clock) (s0 r0 s r : Stream) (sending receiving : Coming) (c : Sifting) (h : Amidst manner clock s0 r0 s r sending receiving c) (m : ℕ) → turn_of sending.next receiving.next ≡ turns.Received m
    → ReceivesNext manner clock r0 r sending h.sent h.received receiving.fetched m × (h.now ≤ m)
receives-next manner clock s0 r0 s r sending receiving c h m turn =
    let is = turn-received sending.next receiving.next m turn in
    let later = subst (λ (o : Option ℕ). IfSome o (λ m. (h.now ≤ m) × AreUpTo m (on_clock manner clock.sent_delay h.sent))) is.0 h.received_later in
    (record { waits = waits-by manner sides.Received clock.received_delay r0 r h.received receiving m is.0 h.received_stands; later = is.1; up = later.1 }, later.0)

-- behind a record that was received
pub record ReceivedNow (manner : Manner) (clock : Clock) (s0 s : Stream) (sending : Coming) (c : Sifting) (sent received : List Record) (m : ℕ) : Type 0 where
  pub compared : IsSifted c (on_clock manner clock.sent_delay sent) (on_clock manner clock.received_delay received) m
  pub within_is : c.window.within ≡ clock.within
  pub front : List Seen
  pub last : Seen
  pub last_is : on_clock manner clock.received_delay received ≡ front ++ last ∷ []
  pub moment_is : last.moment ≡ m
  pub up : AreUpTo m (on_clock manner clock.sent_delay sent)
  pub room : AllHadRoom clock.within (on_clock manner clock.received_delay received) [] (on_clock manner clock.sent_delay sent)
  pub sent_stands : Stands manner sides.Sent clock.sent_delay s0 s sent sending
  pub sent_later : IfSome sending.next (λ k. (m < k) × AreBefore k (on_clock manner clock.received_delay received))

pub before-next : (next : Option ℕ) (now m : ℕ) (R : List Seen) (x : Seen) → x.moment ≡ m → IfSome next (λ k. (now ≤ k) × AreBefore k R) → IfSome next (λ k. m < k) → IfSome next (λ k. (m < k) × AreBefore k (R ++ x ∷ []))
before-next None now m R x is h g = tt
before-next (Some k) now m R x is h g = (g, before-one k R x h.1 (omega (arith, g, is)))

pub received-now : (manner : Manner) (clock : Clock) (s0 r0 s r : Stream) (sending receiving : Coming) (c d : Sifting) (m : ℕ) (h : Amidst manner clock s0 r0 s r sending receiving c) → turn_of sending.next receiving.next ≡ turns.Received m
    → ((x : Record) (S R : List Seen) (now : ℕ) → lent r.standing ≡ Some x → IsSifted c S R now → now ≤ m → IsSifted d S (R ++ seen_at manner m x ∷ []) m) → d.window.within ≡ c.window.within
    → (x : Record) × HasLent r0 r (h.received ++ x ∷ []) receiving.fetched × ReceivedNow manner clock s0 s sending d h.sent (h.received ++ x ∷ []) m
received-now manner clock s0 r0 s r sending receiving c d m h turn compared same =
    let next = receives-next manner clock s0 r0 s r sending receiving c h m turn in
    let known = next.0 in
    let x = known.waits.next in
    let S = on_clock manner clock.sent_delay h.sent in
    let R = on_clock manner clock.received_delay h.received in
    let now_is : on_clock manner clock.received_delay (h.received ++ x ∷ []) ≡ R ++ seen_at manner m x ∷ [] = clock-one manner clock.received_delay h.received x m known.waits.moment_is in (
      x,
      known.waits.taken,
      record {
        compared = subst (λ (l : List Seen). IsSifted d S l m) (sym now_is) (compared x S R h.now known.waits.lends h.compared next.1);
        within_is = same ∙ h.within_is;
        front = R;
        last = seen_at manner m x;
        last_is = now_is;
        moment_is = refl;
        up = known.up;
        room = subst (λ (l : List Seen). AllHadRoom clock.within l [] S) (sym now_is) (room-more clock.within m R (seen_at manner m x ∷ []) [] S h.room known.up (same-moment m));
        sent_stands = h.sent_stands;
        sent_later = subst (λ (l : List Seen). IfSome sending.next (λ k. (m < k) × AreBefore k l)) (sym now_is)
            (before-next sending.next h.now m R (seen_at manner m x) refl h.sent_later known.later);
      },
    )

pub only-behind : (next : Option ℕ) (m : ℕ) (R : List Seen) → IfSome next (λ k. (m < k) × AreBefore k R) → IfSome next (λ k. m < k)
only-behind None m R h = tt
only-behind (Some k) m R h = h.0

pub after-received : (manner : Manner) (clock : Clock) (s0 s : Stream) (sending : Coming) (c : Sifting) (sent received : List Record) (m : ℕ) → ReceivedNow manner clock s0 s sending c sent received m
    → (text : List ℕ) → s0.supply.rest ≡ Some text → AfterReceived clock text c (on_clock manner clock.sent_delay (records_in text)) (on_clock manner clock.received_delay received)
after-received manner clock s0 s sending c sent received m h text e =
    let S = on_clock manner clock.sent_delay sent in
    let R = on_clock manner clock.received_delay received in
    let all = on_clock manner clock.sent_delay (records_in text) in
    let theirs = splits manner sides.Sent clock.sent_delay s0 s sent sending h.sent_stands text e in
    let late : latest R ≡ m = ap (λ (l : List Seen). latest l) h.last_is ∙ latest-one h.front h.last ∙ h.moment_is in
    let front : sent_by R all ≡ S =
    ap (λ (l : List Seen). sent_by l all) h.last_is ∙ sent-by-one h.front h.last all ∙ ap (λ (n : ℕ). up_to n all) h.moment_is ∙ ap (λ (l : List Seen). up_to m l) theirs.parts
    ∙ up-to-front m S theirs.behind h.up (starts-behind sending.next theirs.behind m theirs.starts (only-behind sending.next m R h.sent_later)) in
    record {
      counts = subst (λ (l : List Seen). AreCounts clock.within l R c) (sym front) (counts-of clock.within m c S R h.compared h.within_is);
      room = λ ys starts. subst (λ (l : List Seen). AllHadRoom clock.within (R ++ ys) [] l) (sym front)
          (room-more clock.within m R ys [] S h.room h.up (subst (λ (n : ℕ). StartsAt n ys) late starts));
      first = λ g. theirs.no_fault (none-waits sending.next S theirs.behind theirs.starts (sym front ∙ g ∙ theirs.parts));
    }

pub sent-goes-on : (next : Option ℕ) (m : ℕ) (R : List Seen) → IfSome next (λ k. (m < k) × AreBefore k R) → IfSome next (λ k. (m ≤ k) × AreBefore k R)
sent-goes-on None m R h = tt
sent-goes-on (Some k) m R h = (let late = h.0 in omega (arith, late), h.1)

pub step-received : (manner : Manner) (clock : Clock) (s0 r0 s r : Stream) (sending receiving : Coming) (c : Sifting) (sent received : List Record) (m : ℕ) (result : Result (Unit {0}) CompareFault)
    → ReceivedNow manner clock s0 s sending c sent received m → Fetches manner sides.Received clock.received_delay r0 r received receiving result → Steps manner clock s0 r0 s r sending receiving c result
step-received manner clock s0 r0 s r sending receiving c sent received m (Ok x) h stands =
    let late : latest (on_clock manner clock.received_delay received) ≡ m = ap (λ (l : List Seen). latest l) h.last_is ∙ latest-one h.front h.last ∙ h.moment_is in
    record {
      sent = sent;
      received = received;
      now = m;
      sent_stands = h.sent_stands;
      received_stands = stands;
      within_is = h.within_is;
      compared = h.compared;
      room = h.room;
      sent_later = sent-goes-on sending.next m (on_clock manner clock.received_delay received) h.sent_later;
      received_later = if-some (λ k. (m ≤ k) × AreUpTo k (on_clock manner clock.sent_delay sent)) receiving.next
          (λ k e. let le = next-later manner sides.Received clock.received_delay r0 r received receiving [] m stands late k e in (le, up-to-later m k (on_clock manner clock.sent_delay sent) le h.up));
    }
step-received manner clock s0 r0 s r sending receiving c sent received m (Err fault) h stops = λ sent_text received_text e f.
    received-stops manner clock sent_text received_text c received (on_clock manner clock.sent_delay (records_in sent_text)) r0 fault f stops
    (after-received manner clock s0 s sending c sent received m h sent_text e)
