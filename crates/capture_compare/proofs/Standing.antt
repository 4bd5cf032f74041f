-- Where two captures stand: whose record comes next, what is behind those that were taken, and what is counted of them.
use Rattle.std.proofs.Common.{◌≡◌, ◌∙◌, refl, sym, ap, subst, ℕ, ◌≤◌, ◌<◌, nat_le, Bool, true, false, List, [], ◌∷◌, ◌++◌, length, map, append_assoc, arith, Option, Some, None, IfSome, Result}
use Rattle.std.proofs.lemmas.List.{append-nil}
use Rattle.std.proofs.lemmas.Bool.{leb-false, leb-true}
use Rattle.pcap.specs.Reading.{Reading, records}
use Rattle.pcap.specs.Record.{Record}
use Rattle.pcap.specs.declared.text.header.CaptureFault.{CaptureFault}
use Rattle.pcap.specs.Source.{Stream}
use Rattle.record_match.specs.Compared.{octets_in}
use Rattle.record_match.specs.Match.{Sent, as_sent, matched, received_count}
use Rattle.record_match.specs.Settled.{alone_from, told_from}
use Rattle.record_match.specs.Window.{Window, at_moment}
use Rattle.record_match.proofs.Comparing.{all-alone, held-then}
use Rattle.capture_compare.specs.Clocked.{AreUpTo, Seen, kept, latest, on_clock, seen_at, timed}
use Rattle.capture_compare.specs.Compared.{AllHadRoom, AreCounts, records_of, fault_in, has_room_for, records_in, takes, window_at}
use Rattle.capture_compare.specs.Sifted.{IsSifted, Sifting, compared_of}
use Rattle.capture_compare.specs.Turns.{Stands, StandsBy, Waits, turn_of}
use Rattle.capture_compare.specs.declared.coming.Coming.{Coming}
use Rattle.capture_compare.specs.declared.turn.Turn.TheVariants as turns
use Rattle.capture_compare.specs.declared.fault.Side.{Side}
use Rattle.capture_compare.proofs.Clocking.{StartsAt, StartsBehind, clock-append, clock-one, not-longer, room-more}
use Rattle.capture_compare.specs.declared.carried.key.Manner.{Manner}
use Rattle.capture_compare.specs.Key.{told_by}

-- ---- whose turn

pub turn-sent : (s r : Option ℕ) (m : ℕ) → turn_of s r ≡ turns.Sent m → (s ≡ Some m) × IfSome r (λ k. m ≤ k)
turn-sent None None m e = absurd cc
turn-sent (Some n) None m e = let same : n ≡ m = cc in (ap (λ (k : ℕ). Some k) same, tt)
turn-sent None (Some k) m e = absurd cc
turn-sent (Some n) (Some k) m e = by (nat_le n k) refl
  where
    by : (q : Bool) → nat_le n k ≡ q → (◌≡◌ {A = Option ℕ} (Some n) (Some m)) × (m ≤ k)
    by true g =
        let is : turns.Sent n ≡ turns.Sent m = rw g at e in
        let same : n ≡ m = cc in
        (ap (λ (k : ℕ). Some k) same, omega (arith, same, leb-true n k g))
    by false g = let is : turns.Received k ≡ turns.Sent m = rw g at e in absurd cc

pub turn-received : (s r : Option ℕ) (m : ℕ) → turn_of s r ≡ turns.Received m → (r ≡ Some m) × IfSome s (λ k. m < k)
turn-received None None m e = absurd cc
turn-received (Some n) None m e = absurd cc
turn-received None (Some k) m e = let same : k ≡ m = cc in (ap (λ (k : ℕ). Some k) same, tt)
turn-received (Some n) (Some k) m e = by (nat_le n k) refl
  where
    by : (q : Bool) → nat_le n k ≡ q → (◌≡◌ {A = Option ℕ} (Some k) (Some m)) × (m < n)
    by true g = let is : turns.Sent n ≡ turns.Received m = rw g at e in absurd cc
    by false g =
        let is : turns.Received k ≡ turns.Received m = rw g at e in
        let same : k ≡ m = cc in
        (ap (λ (k : ℕ). Some k) same, omega (arith, same, leb-false n k g))

pub turn-done : (s r : Option ℕ) → turn_of s r ≡ turns.Done → (s ≡ None) × (r ≡ None)
turn-done None None e = (refl, refl)
turn-done (Some n) None e = absurd cc
turn-done None (Some k) e = absurd cc
turn-done (Some n) (Some k) e = by (nat_le n k) refl
  where
    by : (q : Bool) → nat_le n k ≡ q → (◌≡◌ {A = Option ℕ} (Some n) None) × (◌≡◌ {A = Option ℕ} (Some k) None)
    by true g = let is : turns.Sent n ≡ turns.Done = rw g at e in absurd cc
    by false g = let is : turns.Received k ≡ turns.Done = rw g at e in absurd cc

-- ---- one capture, by its text

-- some records begin at this moment, or there are none
abbrev pub StartWith : Option ℕ → List Seen → Type 0
StartWith None ys = ys ≡ []
StartWith (Some k) ys = (y : Seen) × (zs : List Seen) × (ys ≡ y ∷ zs) × (y.moment ≡ k)

-- the records of a text on one clock are those that were taken, and these behind them
pub record Splits (manner : Manner) (side : Side) (delay : ℕ) (text : List ℕ) (rs : List Record) (next : Option ℕ) : Type 0 where
  pub behind : List Seen
  pub parts : on_clock manner delay (records_in text) ≡ on_clock manner delay rs ++ behind
  pub starts : StartWith next behind
  pub no_fault : next ≡ None → fault_in side text ≡ None

-- and the first of these is the one that waits
pub waits-parts : (manner : Manner) (delay : ℕ) (start now : Stream) (rs : List Record) (count m : ℕ) (w : Waits manner delay start now rs count m) (text : List ℕ) → start.supply.rest ≡ Some text
    → (zs : List Seen) × (on_clock manner delay (records_in text) ≡ on_clock manner delay rs ++ seen_at manner m w.next ∷ zs)
waits-parts manner delay start now rs count m w text e =
    let reading = w.taken.reading text e in
    let rest = (records reading.style reading.rest).records in
    let front = rs ++ w.next ∷ [] in
    let all : records_in text ≡ front ++ rest = ap (λ (r : Result Reading CaptureFault). records_of r) reading.records in
    let zs = timed manner delay (latest (on_clock manner delay front)) rest in (
      zs,
      ap (λ (l : List Record). on_clock manner delay l) all ∙ clock-append manner delay front rest
          ∙ ap (λ (l : List Seen). l ++ zs) (clock-one manner delay rs w.next m w.moment_is)
          ∙ append_assoc (on_clock manner delay rs) (seen_at manner m w.next ∷ []) zs,
    )

pub splits-by : (manner : Manner) (side : Side) (delay : ℕ) (start now : Stream) (rs : List Record) (count : ℕ) (next : Option ℕ) → StandsBy manner side delay start now rs count next → (text : List ℕ) → start.supply.rest ≡ Some text
    → Splits manner side delay text rs next
splits-by manner side delay start now rs count None h text e =
    let all = h.all text e in
    record {
      behind = [];
      parts = ap (λ (l : List Record). on_clock manner delay l) all.0 ∙ sym (append-nil (on_clock manner delay rs));
      starts = refl;
      no_fault = λ _. all.1;
    }
splits-by manner side delay start now rs count (Some m) h text e =
    let parts = waits-parts manner delay start now rs count m h text e in
    record {
      behind = seen_at manner m h.next ∷ parts.0;
      parts = parts.1;
      starts = (seen_at manner m h.next, parts.0, refl, refl);
      no_fault = λ none. absurd (no-moment m none);
    }
  where
    no-moment : (m : ℕ) → ◌≡◌ {A = Option ℕ} (Some m) None → ⊥
    no-moment m e = cc

pub same-moment : (k : ℕ) → k ≤ k
same-moment k = omega arith

pub splits : (manner : Manner) (side : Side) (delay : ℕ) (start now : Stream) (rs : List Record) (c : Coming) → Stands manner side delay start now rs c → (text : List ℕ) → start.supply.rest ≡ Some text → Splits manner side delay text rs c.next
splits manner side delay start now rs c h text e = splits-by manner side delay start now rs c.fetched c.next h.next text e

pub starts-at : (next : Option ℕ) (ys : List Seen) (m : ℕ) → StartWith next ys → IfSome next (λ k. m ≤ k) → StartsAt m ys
starts-at None ys m h le = subst (λ (l : List Seen). StartsAt m l) (sym h) tt
starts-at (Some k) ys m h le = subst (λ (l : List Seen). StartsAt m l) (sym h.2) (let is = h.3 in let low : m ≤ k = le in omega (arith, low, is))

pub starts-behind : (next : Option ℕ) (ys : List Seen) (m : ℕ) → StartWith next ys → IfSome next (λ k. m < k) → StartsBehind m ys
starts-behind None ys m h le = subst (λ (l : List Seen). StartsBehind m l) (sym h) tt
starts-behind (Some k) ys m h le = subst (λ (l : List Seen). StartsBehind m l) (sym h.2) (let is = h.3 in let low : m < k = le in omega (arith, low, is))

-- where all is taken, none waits
pub none-waits : (next : Option ℕ) (xs ys : List Seen) → StartWith next ys → xs ≡ xs ++ ys → next ≡ None
none-waits None xs ys h e = refl
none-waits (Some k) xs ys h e = absurd (not-longer xs h.0 h.1 (e ∙ ap (λ (l : List Seen). xs ++ l) h.2))

-- what is received later takes no room
pub room-later : (within : ℕ) (R S ys : List Seen) (next : Option ℕ) → AllHadRoom within R [] S → StartWith next ys → IfSome next (λ k. AreUpTo k S) → AllHadRoom within (R ++ ys) [] S
room-later within R S ys None room h up = subst (λ (l : List Seen). AllHadRoom within (R ++ l) [] S) (sym h) (subst (λ (l : List Seen). AllHadRoom within l [] S) (sym (append-nil R)) room)
room-later within R S ys (Some k) room h up = room-more within k R ys [] S room up (starts-at (Some k) ys k h (same-moment k))

-- ---- counts and room

pub counts-of : (within now : ℕ) (c : Sifting) (S R : List Seen) → IsSifted c S R now → c.window.within ≡ within → AreCounts within S R c
counts-of within now c S R h is =
    let own = h.compared in
    record {
      sent_is = own.sent_is;
      received_is = own.received_is;
      cut_is = own.cut_is;
      sent_aside_is = h.sent_aside_is;
      received_aside_is = h.received_aside_is;
      both_is = own.both_is ∙ ap (λ (w : ℕ). received_count (matched w (kept S) (kept R))) is;
      told_is = own.told_is ∙ ap (λ (w : ℕ). told_from w 1 (map as_sent (kept S)) (kept R)) is;
      alone_is = sym (all-alone (compared_of c) (kept S) (kept R) now own) ∙ ap (λ (w : ℕ). alone_from 1 (matched w (kept S) (kept R))) is;
    }

pub window-is : (within now m : ℕ) (c : Sifting) (S R : List Seen) → IsSifted c S R now → now ≤ m → c.window.within ≡ within → at_moment m c.window ≡ window_at within m (kept S) (kept R)
window-is within now m c S R h le is =
    let own = h.compared in
    subst (λ (w : ℕ). at_moment m c.window ≡ window_at w m (kept S) (kept R)) is
    (make c.window.within c.window.within (length (kept S)) c.window.records (octets_in (kept S)) c.window.octets refl own.records_is own.octets_is (held-then (compared_of c) (kept S) (kept R) now m own le))
  where
    make : (a b r q o p : ℕ) → b ≡ a → q ≡ r → p ≡ o → {x y : List Sent} → x ≡ y
        → ◌≡◌ {A = Window} (record { within = b; records = q; octets = p; held = x }) (record { within = a; records = r; octets = o; held = y })
    make a b r q o p e f g h = cc

pub room-is : (manner : Manner) (within now m : ℕ) (c : Sifting) (S R : List Seen) (x : Record) (q : Bool) → IsSifted c S R now → now ≤ m → c.window.within ≡ within → takes (at_moment m c.window) (told_by manner x) ≡ q
    → has_room_for within S R (seen_at manner m x) ≡ q
room-is manner within now m c S R x q h le is e = ap (λ (w : Window). takes w (told_by manner x)) (sym (window-is within now m c S R h le is)) ∙ e
