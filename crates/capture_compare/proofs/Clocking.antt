-- Records on one clock, in front and behind.
use Rattle.std.proofs.Common.{◌≡◌, ℕ, ◌+◌, ◌<◌, ◌≤◌, max, Bool, true, false, nat_lt, List, [], ◌∷◌, ◌++◌, length, refl, sym, ap, ◌∙◌, subst, arith, append_assoc, length-append}
use Rattle.std.proofs.lemmas.List.{append-nil}
use Rattle.std.proofs.lemmas.Bool.{le-leb, le-ltb, lt-leb, lt-ltb}
use Rattle.pcap.specs.Record.{Record}
use Rattle.capture_compare.specs.Clocked.{AreBefore, AreUpTo, Seen, before, latest, latest_behind, on_clock, seen_at, sent_by, timed, up_to}
use Rattle.capture_compare.specs.Compared.{AllHadRoom, has_room_for}
use Rattle.capture_compare.specs.declared.carried.key.Manner.{Manner}

-- ---- a clock

timed-append : (manner : Manner) (delay l : ℕ) (xs ys : List Record) → timed manner delay l (xs ++ ys) ≡ timed manner delay l xs ++ timed manner delay (latest_behind l (timed manner delay l xs)) ys
timed-append manner delay l [] ys = refl
timed-append manner delay l (x ∷ xs) ys = ap (λ (t : List Seen). seen_at manner (max (x.moment + delay) l) x ∷ t) (timed-append manner delay (max (x.moment + delay) l) xs ys)

pub timed-length : (manner : Manner) (delay l : ℕ) (xs : List Record) → length (timed manner delay l xs) ≡ length xs
timed-length manner delay l [] = refl
timed-length manner delay l (x ∷ xs) = omega (arith, timed-length manner delay (max (x.moment + delay) l) xs)

pub clock-append : (manner : Manner) (delay : ℕ) (xs ys : List Record) → on_clock manner delay (xs ++ ys) ≡ on_clock manner delay xs ++ timed manner delay (latest (on_clock manner delay xs)) ys
clock-append manner delay xs ys = timed-append manner delay 0 xs ys

pub clock-one : (manner : Manner) (delay : ℕ) (xs : List Record) (r : Record) (m : ℕ) → m ≡ max (r.moment + delay) (latest (on_clock manner delay xs)) → on_clock manner delay (xs ++ r ∷ []) ≡ on_clock manner delay xs ++ seen_at manner m r ∷ []
clock-one manner delay xs r m is = clock-append manner delay xs (r ∷ []) ∙ ap (λ (n : ℕ). on_clock manner delay xs ++ seen_at manner n r ∷ []) (sym is)

latest-behind-one : (l : ℕ) (xs : List Seen) (x : Seen) → latest_behind l (xs ++ x ∷ []) ≡ x.moment
latest-behind-one l [] x = refl
latest-behind-one l (y ∷ xs) x = latest-behind-one y.moment xs x

pub latest-one : (xs : List Seen) (x : Seen) → latest (xs ++ x ∷ []) ≡ x.moment
latest-one xs x = latest-behind-one 0 xs x

pub sent-by-one : (xs : List Seen) (x : Seen) (sent : List Seen) → sent_by (xs ++ x ∷ []) sent ≡ up_to x.moment sent
sent-by-one [] x sent = refl
sent-by-one (y ∷ xs) x sent = ap (λ (n : ℕ). up_to n sent) (latest-behind-one y.moment xs x)

-- ---- in front of a moment

-- the first of some isn't earlier, or is later
abbrev pub StartsAt : ℕ → List Seen → Type 0
StartsAt moment [] = Unit {0}
StartsAt moment (r ∷ rs) = moment ≤ r.moment

abbrev pub StartsBehind : ℕ → List Seen → Type 0
StartsBehind moment [] = Unit {0}
StartsBehind moment (r ∷ rs) = moment < r.moment

before-none : (m : ℕ) (ys : List Seen) → StartsAt m ys → before m ys ≡ []
before-none m [] h = refl
before-none m (y ∷ ys) h = rw (le-ltb y.moment m h) refl

pub before-more : (m : ℕ) (xs ys : List Seen) → StartsAt m ys → before m (xs ++ ys) ≡ before m xs
before-more m [] ys h = before-none m ys h
before-more m (x ∷ xs) ys h = by (nat_lt x.moment m) refl (before-more m xs ys h)
  where
    by : (q : Bool) → nat_lt x.moment m ≡ q → before m (xs ++ ys) ≡ before m xs → before m ((x ∷ xs) ++ ys) ≡ before m (x ∷ xs)
    by true g rest = rw g (ap (λ (t : List Seen). x ∷ t) rest)
    by false g rest = rw g refl

before-all : (m : ℕ) (xs : List Seen) → AreBefore m xs → before m xs ≡ xs
before-all m [] h = refl
before-all m (x ∷ xs) h = rw (lt-ltb x.moment m h.0) (ap (λ (t : List Seen). x ∷ t) (before-all m xs h.1))

pub before-front : (m : ℕ) (xs ys : List Seen) → AreBefore m xs → StartsAt m ys → before m (xs ++ ys) ≡ xs
before-front m xs ys h g = before-more m xs ys g ∙ before-all m xs h

pub before-zero : (xs : List Seen) → before 0 xs ≡ []
before-zero [] = refl
before-zero (x ∷ xs) = rw (le-ltb x.moment 0 (omega arith)) refl

up-to-none : (m : ℕ) (ys : List Seen) → StartsBehind m ys → up_to m ys ≡ []
up-to-none m [] h = refl
up-to-none m (y ∷ ys) h = rw (lt-leb y.moment m h) refl

pub up-to-front : (m : ℕ) (xs ys : List Seen) → AreUpTo m xs → StartsBehind m ys → up_to m (xs ++ ys) ≡ xs
up-to-front m [] ys h g = up-to-none m ys g
up-to-front m (x ∷ xs) ys h g = rw (le-leb x.moment m h.0) (ap (λ (t : List Seen). x ∷ t) (up-to-front m xs ys h.1 g))

pub before-later : (m n : ℕ) (xs : List Seen) → m ≤ n → AreBefore m xs → AreBefore n xs
before-later m n [] le h = tt
before-later m n (x ∷ xs) le h = (omega (arith, h.0, le), before-later m n xs le h.1)

pub before-one : (m : ℕ) (xs : List Seen) (x : Seen) → AreBefore m xs → x.moment < m → AreBefore m (xs ++ x ∷ [])
before-one m [] x h g = (g, tt)
before-one m (y ∷ xs) x h g = (h.0, before-one m xs x h.1 g)

pub up-to-later : (m n : ℕ) (xs : List Seen) → m ≤ n → AreUpTo m xs → AreUpTo n xs
up-to-later m n [] le h = tt
up-to-later m n (x ∷ xs) le h = (omega (arith, h.0, le), up-to-later m n xs le h.1)

pub up-to-one : (m : ℕ) (xs : List Seen) (x : Seen) → AreUpTo m xs → x.moment ≤ m → AreUpTo m (xs ++ x ∷ [])
up-to-one m [] x h g = (g, tt)
up-to-one m (y ∷ xs) x h g = (h.0, up-to-one m xs x h.1 g)

-- ---- room

starts-at-less : (m n : ℕ) (ys : List Seen) → m ≤ n → StartsAt n ys → StartsAt m ys
starts-at-less m n [] le h = tt
starts-at-less m n (y ∷ ys) le h = omega (arith, le, h)

-- what is received behind all that were sent takes no room from them
pub room-more : (within n : ℕ) (R ys done xs : List Seen) → AllHadRoom within R done xs → AreUpTo n xs → StartsAt n ys → AllHadRoom within (R ++ ys) done xs
room-more within n R ys done [] h up starts = tt
room-more within n R ys done (x ∷ xs) h up starts = (
  ap (λ (l : List Seen). has_room_for within done l x) (before-more x.moment R ys (starts-at-less x.moment n ys up.0 starts)) ∙ h.0,
  room-more within n R ys (done ++ x ∷ []) xs h.1 up.1 starts,
)

room-behind : (within : ℕ) (R done xs : List Seen) (x : Seen) → AllHadRoom within R done xs → has_room_for within (done ++ xs) (before x.moment R) x ≡ true → AllHadRoom within R done (xs ++ x ∷ [])
room-behind within R done [] x h g = (subst (λ (l : List Seen). has_room_for within l (before x.moment R) x ≡ true) (append-nil done) g, tt)
room-behind within R done (y ∷ xs) x h g = (
  h.0,
  room-behind within R (done ++ y ∷ []) xs x h.1 (subst (λ (l : List Seen). has_room_for within l (before x.moment R) x ≡ true) (sym (append_assoc done (y ∷ []) xs)) g),
)

pub room-one : (within : ℕ) (R xs : List Seen) (x : Seen) → AllHadRoom within R [] xs → AreBefore x.moment R → has_room_for within xs R x ≡ true → AllHadRoom within R [] (xs ++ x ∷ [])
room-one within R xs x h early g = room-behind within R [] xs x h (ap (λ (l : List Seen). has_room_for within xs l x) (before-all x.moment R early) ∙ g)

-- a list with something behind it isn't itself
pub not-longer : (xs : List Seen) (y : Seen) (ys : List Seen) → xs ≡ xs ++ y ∷ ys → ⊥
not-longer xs y ys e = let n = ap (λ (l : List Seen). length l) e in absurd (omega (arith, n, length-append xs (y ∷ ys)))
