-- What a window shows of the records that it keeps.
use Rattle.std.proofs.Common.{◌≡◌, ℕ, ◌+◌, ◌-◌, ◌<◌, ◌≤◌, min, max, eqb, ◌==◌, if◌then◌else◌, Bool, true, false, not, nat_lt, nat_le, ◌&&◌, List, [], ◌∷◌, length, get_or, set, take, drop, refl, sym, ap, ◌∙◌, subst, arith}
use borrow.Author.Tests.{leb-true, ltb-false, ltb-true}
use Rattle.std.proofs.lemmas.Bool.{eqb-true}
use Rattle.wire.specs.Octets.{is_same}
use Rattle.wire.proofs.OctetsLemmas.{is_same-true}
use Rattle.record_match.specs.Bucket.{bucket_of}
use Rattle.record_match.specs.Match.{Record, Sent, is_met_by, is_within, taken}
use Rattle.record_match.specs.Window.{Window, has_room, has_space, is_counted, is_first_over, octets_of, still_held}
use Rattle.record_match.specs.Kept.{IsIndexed, IsLaid, NoneBehind, NoneBetween, behind, laid, sent_of}
use Rattle.record_match.specs.declared.kept.Ends.{Ends}
use Rattle.record_match.proofs.Indexing.{Order, Less, Same, More, in_order}
use Rattle.record_match.specs.declared.kept.Kept.{Kept}
use Rattle.record_match.proofs.Laying.{bucket-at, laid-at, laid-length, laid-octets, laid-set}
use Rattle.record_match.proofs.Meeting.{and-false}

-- ---- the model of a window

pub shown : ℕ → ℕ → ℕ → List Kept → List ℕ → Window
shown within gone passed ks row = record { within = within; records = gone + length ks; octets = passed + length row; held = laid ks row }

pub held-is : {w r o : ℕ} {held : List Sent} {now : Window} → ◌≡◌ {A = Window} (record { within = w; records = r; octets = o; held = held }) now → held ≡ now.held
held-is v = ap (λ (x : Window). x.held) v

pub within-is : {w r o : ℕ} {held : List Sent} {now : Window} → ◌≡◌ {A = Window} (record { within = w; records = r; octets = o; held = held }) now → w ≡ now.within
within-is v = ap (λ (x : Window). x.within) v

pub records-is : {w r o : ℕ} {held : List Sent} {now : Window} → ◌≡◌ {A = Window} (record { within = w; records = r; octets = o; held = held }) now → r ≡ now.records
records-is v = ap (λ (x : Window). x.records) v

pub octets-is : {w r o : ℕ} {held : List Sent} {now : Window} → ◌≡◌ {A = Window} (record { within = w; records = r; octets = o; held = held }) now → o ≡ now.octets
octets-is v = ap (λ (x : Window). x.octets) v

-- a window as another, part by part
pub as-window : (w r o : ℕ) (held : List Sent) (want : Window) → w ≡ want.within → r ≡ want.records → o ≡ want.octets → held ≡ want.held → ◌≡◌ {A = Window} (record { within = w; records = r; octets = o; held = held }) want
as-window w r o held want a b c d = parts w r o held want.within want.records want.octets want.held a b c d
  where
    parts : (w r o : ℕ) (held : List Sent) (w' r' o' : ℕ) (held' : List Sent) → w ≡ w' → r ≡ r' → o ≡ o' → held ≡ held'
        → ◌≡◌ {A = Window} (record { within = w; records = r; octets = o; held = held }) (record { within = w'; records = r'; octets = o'; held = held' })
    parts w r o held w' r' o' held' a b c d = cc

pub count-is : (ks : List Kept) (row : List ℕ) (held : List Sent) → laid ks row ≡ held → length held ≡ length ks
count-is ks row held v = sym (ap (λ (l : List Sent). length l) v) ∙ laid-length ks row

pub octets-are : (at : ℕ) (ks : List Kept) (row : List ℕ) (held : List Sent) → laid ks row ≡ held → IsLaid at ks row → octets_of held ≡ length row
octets-are at ks row held v h = sym (ap (λ (l : List Sent). octets_of l) v) ∙ laid-octets at ks row h

-- ---- one record

pub one-is : (at : ℕ) (ks : List Kept) (row : List ℕ) (held : List Sent) (i : ℕ) (k : Kept) (e : Sent) → laid ks row ≡ held → IsLaid at ks row → i < length ks → k ≡ get_or ks i k
    → get_or held i e ≡ sent_of k (take k.length (drop (k.at - at) row))
one-is at ks row held i k e v h lt here =
    sym (ap (λ (l : List Sent). get_or l i e) v) ∙ laid-at at ks row i k e h lt ∙ ap (λ (x : Kept). sent_of x (take x.length (drop (x.at - at) row))) (sym here)

-- what is asked of it
pub asked-is : (w want : ℕ) (m : Record) (at : ℕ) (ks : List Kept) (row : List ℕ) (held : List Sent) (i : ℕ) (k : Kept) (e : Sent) (begin : ℕ) (octets : List ℕ) → w ≡ want → laid ks row ≡ held → IsLaid at ks row
    → i < length ks → k ≡ get_or ks i k → begin ≡ k.at - at → octets ≡ take k.length (drop begin row) → is_met_by w m (sent_of k octets) ≡ is_met_by want m (get_or held i e)
asked-is w want m at ks row held i k e begin octets in_time v h lt here begins are =
    let one = one-is at ks row held i k e v h lt here in
    ap (λ (l : List ℕ). is_met_by w m (sent_of k l)) are
    ∙ ap (λ (x : ℕ). is_met_by w m (sent_of k (take k.length (drop x row)))) begins
    ∙ ap (λ (x : ℕ). is_met_by x m (sent_of k (take k.length (drop (k.at - at) row)))) in_time
    ∙ sym (ap (λ (s : Sent). is_met_by want m s) one)

-- it is received
pub laid-take : (at : ℕ) (ks : List Kept) (row : List ℕ) (held : List Sent) (i : ℕ) (k x : Kept) (e : Sent) → laid ks row ≡ held → IsLaid at ks row → i < length ks → k ≡ get_or ks i k → x ≡ record k { is_taken = true }
    → laid (set ks i x) row ≡ set held i (taken (get_or held i e))
laid-take at ks row held i k x e v h lt here is =
    let size : x.length ≡ (get_or ks i k).length = ap (λ (y : Kept). y.length) is ∙ ap (λ (y : Kept). y.length) here in
    let one = one-is at ks row (laid ks row) i k e refl h lt here in
    let own : sent_of x (get_or (laid ks row) i e).octets ≡ taken (get_or (laid ks row) i e) = rw (one, is) refl in
    laid-set ks row i x k e lt size ∙ ap (λ (s : Sent). set (laid ks row) i s) own ∙ ap (λ (l : List Sent). set l i (taken (get_or l i e))) v

-- ---- room

both : (a b : Bool) → (a && b) ≡ true → (a ≡ true) × (b ≡ true)
both true b h = (refl, h)
both false b h = absurd cc

pub room-told : (w : Window) (more : ℕ) → has_room w more ≡ true
    → ((length w.held < 1048576) × (octets_of w.held + more ≤ 268435456)) × ((w.records < 4611686018427387904) × (w.octets + more ≤ 4611686018427387904))
room-told w more h =
    let parts = both (has_space (length w.held) (octets_of w.held) more) (is_counted w.records w.octets more) h in
    let space = both (nat_lt (length w.held) 1048576) (nat_le (octets_of w.held + more) 268435456) parts.0 in
    let count = both (nat_lt w.records 4611686018427387904) (nat_le (w.octets + more) 4611686018427387904) parts.1 in
    ((ltb-true _ _ space.0, leb-true _ _ space.1), (ltb-true _ _ count.0, leb-true _ _ count.1))

false-and : (a b : Bool) → a ≡ false → false ≡ (a && b)
false-and true b h = absurd cc
false-and false b h = refl

true-and : (a b : Bool) → a ≡ true → b ≡ (a && b)
true-and true b h = refl
true-and false b h = absurd cc

-- what is asked of the parts is what is asked of the window
pub no-room : (w : Window) (records octets more : ℕ) (q : Bool) → q ≡ has_space records octets more → q ≡ false → records ≡ length w.held → octets ≡ octets_of w.held → false ≡ has_room w more
no-room w records octets more q is lacks r o =
    false-and (has_space (length w.held) (octets_of w.held) more) (is_counted w.records w.octets more)
    (ap (λ (n : ℕ). has_space (length w.held) n more) (sym o) ∙ ap (λ (n : ℕ). has_space n octets more) (sym r) ∙ sym is ∙ lacks)

pub room-if : (w : Window) (records octets all_records all_octets more : ℕ) (q p : Bool) → q ≡ has_space records octets more → q ≡ true → p ≡ is_counted all_records all_octets more
    → records ≡ length w.held → octets ≡ octets_of w.held → all_records ≡ w.records → all_octets ≡ w.octets → p ≡ has_room w more
room-if w records octets all_records all_octets more q p is has counted r o ar ao =
    counted ∙ ap (λ (n : ℕ). is_counted n all_octets more) ar ∙ ap (λ (n : ℕ). is_counted w.records n more) ao
    ∙ true-and (has_space (length w.held) (octets_of w.held) more) (is_counted w.records w.octets more)
    (ap (λ (n : ℕ). has_space (length w.held) n more) (sym o) ∙ ap (λ (n : ℕ). has_space n octets more) (sym r) ∙ sym is ∙ has)

-- ---- records that go

pub over-first : (within now : ℕ) (held : List Sent) → is_first_over within now held ≡ true → (0 < length held) × (still_held within now held ≡ still_held within now (drop 1 held))
over-first within now [] h = absurd cc
over-first within now (s ∷ held) h = (omega arith, rw h refl)

pub over-none : (within now : ℕ) (held : List Sent) → is_first_over within now held ≡ false → still_held within now held ≡ held
over-none within now [] h = refl
over-none within now (s ∷ held) h = rw h refl

-- ---- records that aren't looked for

taken-not : (within : ℕ) (r : Record) (s : Sent) → s.is_taken ≡ true → is_met_by within r s ≡ false
taken-not within r s h = rw h refl

less-not : (within : ℕ) (r : Record) (s : Sent) → (s.missing == r.missing) ≡ false → is_met_by within r s ≡ false
less-not within r s h = rw (and-false (not s.is_taken && is_within within s.moment r.moment) (s.missing == r.missing) h) refl

other-not : (within : ℕ) (r : Record) (s : Sent) → is_same s.octets r.octets ≡ false → is_met_by within r s ≡ false
other-not within r s h = and-false ((not s.is_taken && is_within within s.moment r.moment) && s.missing == r.missing) (is_same s.octets r.octets) h

-- those between two numbers of their bucket
pub none-met : (within : ℕ) (r : Record) (gone at : ℕ) (ks : List Kept) (row : List ℕ) (bucket low high : ℕ) → IsLaid at ks row → bucket ≡ bucket_of r.missing r.octets → NoneBetween gone ks bucket low high
    → (i : ℕ) (d : Kept) (e : Sent) → i < length ks → low < gone + i + 1 → gone + i + 1 < high → is_met_by within r (get_or (laid ks row) i e) ≡ false
none-met within r gone at ks row bucket low high h is none i d e lt lo hi = by (eqb s.missing r.missing) (is_same s.octets r.octets) refl refl
  where
    s : Sent
    s = get_or (laid ks row) i e

    by : (p q : Bool) → eqb s.missing r.missing ≡ p → is_same s.octets r.octets ≡ q → is_met_by within r s ≡ false
    by false q less same = less-not within r s less
    by true false as_many other = other-not within r s other
    by true true as_many same =
        let octets = is_same-true s.octets r.octets same in
        let own : (get_or ks i d).bucket ≡ bucket =
        bucket-at at ks row i d e h lt ∙ ap (bucket_of s.missing) octets ∙ ap (λ (n : ℕ). bucket_of n r.octets) (eqb-true s.missing r.missing as_many) ∙ sym is in
        let taken = none i d lt lo hi own in
        taken-not within r s (ap (λ (s : Sent). s.is_taken) (laid-at at ks row i d e h lt) ∙ taken)

-- the same of what is held
pub none-held : (within : ℕ) (r : Record) (gone at : ℕ) (ks : List Kept) (row : List ℕ) (held : List Sent) (bucket low high : ℕ) → laid ks row ≡ held → IsLaid at ks row → bucket ≡ bucket_of r.missing r.octets → NoneBetween gone ks bucket low high
    → (i : ℕ) (e : Sent) → i < length held → low < gone + i + 1 → gone + i + 1 < high → is_met_by within r (get_or held i e) ≡ false
none-held within r gone at ks row held bucket low high v h is none i e lt lo hi =
    let k : Kept = record { moment = 0; at = 0; next = 0; length = 0; missing = 0; bucket = 0; is_taken = false } in
    let inside : i < length ks = omega (arith, lt, count-is ks row held v) in
    ap (λ (l : List Sent). is_met_by within r (get_or l i e)) (sym v) ∙ none-met within r gone at ks row bucket low high h is none i k e inside lo hi

-- how the search goes on: those below a number aren't the one, nor that of the number, nor those before the next of its bucket
pub step-none : (within : ℕ) (r : Record) (gone at : ℕ) (ks : List Kept) (row : List ℕ) (held : List Sent) (ends : List Ends) (i : ℕ) (k : Kept) (bucket number : ℕ) (e : Sent)
    → laid ks row ≡ held → IsLaid at ks row → IsIndexed gone ks ends → i < length ks → k ≡ get_or ks i k → number ≡ gone + i + 1 → bucket ≡ bucket_of r.missing r.octets
    → ((j : ℕ) → j < length held → gone + j + 1 < number → is_met_by within r (get_or held j e) ≡ false) → is_met_by within r (get_or held i e) ≡ false
    → (j : ℕ) → j < length held → gone + j + 1 < behind number (if k.bucket == bucket then k.next else 0) → is_met_by within r (get_or held j e) ≡ false
step-none within r gone at ks row held ends i k bucket number e v h index lt here n is before own j inside hi = by (in_order (gone + j + 1) number)
  where
    more : (q : Bool) → eqb k.bucket bucket ≡ q → number < gone + j + 1 → gone + j + 1 < max (if k.bucket == bucket then k.next else 0) (number + 1) → is_met_by within r (get_or held j e) ≡ false
    more true g lo up =
        let next : NoneBetween gone ks k.bucket (gone + i + 1) k.next = subst (λ (y : Kept). NoneBetween gone ks y.bucket (gone + i + 1) y.next) (sym here) (index.next i k lt) in
        let same = eqb-true k.bucket bucket g in
        let bound : gone + j + 1 < max k.next (number + 1) = rw g at up in
        none-held within r gone at ks row held k.bucket (gone + i + 1) k.next v h (same ∙ is) next j e inside (omega (arith, lo, n)) (omega (arith, bound, lo))
    more false g lo up = let bound : gone + j + 1 < max 0 (number + 1) = rw g at up in absurd (omega (arith, bound, lo))

    by : Order (gone + j + 1) number → is_met_by within r (get_or held j e) ≡ false
    by (Less l) = before j inside l
    by (Same same) = let at_i : j ≡ i = omega (arith, same, n) in ap (λ (m : ℕ). is_met_by within r (get_or held m e)) at_i ∙ own
    by (More m) = more (eqb k.bucket bucket) refl m hi

-- how it ends
pub end-none : (within : ℕ) (r : Record) (gone at : ℕ) (ks : List Kept) (row : List ℕ) (held : List Sent) (bucket number last : ℕ) (e : Sent)
    → laid ks row ≡ held → IsLaid at ks row → bucket ≡ bucket_of r.missing r.octets → NoneBehind gone ks bucket last → min last (gone + length ks) < number
    → ((j : ℕ) → j < length held → gone + j + 1 < number → is_met_by within r (get_or held j e) ≡ false)
    → (j : ℕ) → j < length held → is_met_by within r (get_or held j e) ≡ false
end-none within r gone at ks row held bucket number last e v h is none past before j inside = by (nat_lt (gone + j + 1) number) refl
  where
    by : (q : Bool) → nat_lt (gone + j + 1) number ≡ q → is_met_by within r (get_or held j e) ≡ false
    by true l = before j inside (ltb-true (gone + j + 1) number l)
    by false l =
        let few : j < length ks = omega (arith, inside, count-is ks row held v) in
        none-held within r gone at ks row held bucket last (gone + length ks + 1) v h is none j e inside (omega (arith, past, ltb-false (gone + j + 1) number l, few)) (omega (arith, few))
