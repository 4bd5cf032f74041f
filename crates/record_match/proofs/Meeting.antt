-- Records that are received.
use Rattle.std.proofs.Common.{◌≡◌, ℕ, zero, suc, ◌+◌, ◌<◌, Bool, true, false, not, ◌&&◌, ◌||◌, nat_le, nat_lt, List, [], ◌∷◌, ◌++◌, length, map, get_or, set, refl, sym, ap, ◌∙◌, arith, Option, Some, None}
use Rattle.std.proofs.lemmas.Bool.{eq-eqb, le-leb, lt-leb, ltb-true}
use Rattle.wire.proofs.OctetsLemmas.{is_same-refl}
use Rattle.record_match.specs.Laws.{AreLater, EachIsTold, HeldIsEnough, ItselfIsWhole, NoneIsLeft, is_any_known}
use Rattle.record_match.specs.Match.{Record, Sent, as_sent, is_known, is_met_by, is_within, lonely_among, met, met_all, received_count, taken}
use Rattle.record_match.specs.Settled.{sent_moment}
use Rattle.record_match.specs.Window.{is_over}

-- ---- the first that a record is

abbrev pub some-moment : ℕ → Option ℕ
some-moment m = Some m

abbrev pub no-moment : Option ℕ
no-moment = None

pub met-at : (within : ℕ) (r : Record) (sent : List Sent) (i : ℕ) (d : Sent) → i < length sent → ((k : ℕ) → k < i → is_met_by within r (get_or sent k d) ≡ false) → is_met_by within r (get_or sent i d) ≡ true
    → met within r sent ≡ set sent i (taken (get_or sent i d))
met-at within r [] i d h before here = absurd (omega (arith, h))
met-at within r (s ∷ sent) zero d h before here = rw here refl
met-at within r (s ∷ sent) (suc i) d h before here =
    let first : is_met_by within r s ≡ false = before 0 (omega arith) in
    rw first (ap (λ (l : List Sent). s ∷ l) (met-at within r sent i d (omega (arith, h)) (λ k l. before (suc k) (omega (arith, l))) here))

pub known-at : (within : ℕ) (r : Record) (sent : List Sent) (i : ℕ) (d : Sent) → i < length sent → ((k : ℕ) → k < i → is_met_by within r (get_or sent k d) ≡ false) → is_met_by within r (get_or sent i d) ≡ true
    → true ≡ is_known within r sent
known-at within r [] i d h before here = absurd (omega (arith, h))
known-at within r (s ∷ sent) zero d h before here = rw here refl
known-at within r (s ∷ sent) (suc i) d h before here =
    let first : is_met_by within r s ≡ false = before 0 (omega arith) in
    rw first (known-at within r sent i d (omega (arith, h)) (λ k l. before (suc k) (omega (arith, l))) here)

-- when the one was sent that it is
pub moment-at : (within : ℕ) (r : Record) (sent : List Sent) (i : ℕ) (d : Sent) → i < length sent → ((k : ℕ) → k < i → is_met_by within r (get_or sent k d) ≡ false) → is_met_by within r (get_or sent i d) ≡ true
    → some-moment (get_or sent i d).moment ≡ sent_moment within r sent
moment-at within r [] i d h before here = absurd (omega (arith, h))
moment-at within r (s ∷ sent) zero d h before here = rw here refl
moment-at within r (s ∷ sent) (suc i) d h before here =
    let first : is_met_by within r s ≡ false = before 0 (omega arith) in
    rw first (moment-at within r sent i d (omega (arith, h)) (λ k l. before (suc k) (omega (arith, l))) here)

pub moment-none : (within : ℕ) (r : Record) (sent : List Sent) (d : Sent) → ((k : ℕ) → k < length sent → is_met_by within r (get_or sent k d) ≡ false) → no-moment ≡ sent_moment within r sent
moment-none within r [] d none = refl
moment-none within r (s ∷ sent) d none =
    let first : is_met_by within r s ≡ false = none 0 (omega arith) in
    rw first (moment-none within r sent d (λ k l. none (suc k) (omega (arith, l))))

pub met-none : (within : ℕ) (r : Record) (sent : List Sent) (d : Sent) → ((k : ℕ) → k < length sent → is_met_by within r (get_or sent k d) ≡ false) → (met within r sent ≡ sent) × (false ≡ is_known within r sent)
met-none within r [] d none = (refl, refl)
met-none within r (s ∷ sent) d none =
    let first : is_met_by within r s ≡ false = none 0 (omega arith) in
    let rest = met-none within r sent d (λ k l. none (suc k) (omega (arith, l))) in
    (rw first (ap (λ (l : List Sent). s ∷ l) rest.0), rw first rest.1)

-- ---- a list with itself

now-met : (within : ℕ) (r : Record) → is_met_by within r (as_sent r) ≡ true
now-met within r = rw (is_same-refl r.octets, eq-eqb r.missing r.missing refl, le-leb r.moment r.moment (omega arith), le-leb r.moment (r.moment + within) (omega arith)) refl

met-itself : (within : ℕ) (done : List Record) (r : Record) (rest : List Sent)
    → met within r (map (λ r. taken (as_sent r)) done ++ as_sent r ∷ rest) ≡ map (λ r. taken (as_sent r)) done ++ taken (as_sent r) ∷ rest
met-itself within [] r rest = rw (now-met within r) refl
met-itself within (d ∷ done) r rest = ap (λ (l : List Sent). taken (as_sent d) ∷ l) (met-itself within done r rest)

all-itself : (within : ℕ) (done rest : List Record)
    → met_all within (map (λ r. taken (as_sent r)) done ++ map as_sent rest) rest ≡ map (λ r. taken (as_sent r)) done ++ map (λ r. taken (as_sent r)) rest
all-itself within done [] = refl
all-itself within done (r ∷ rest) =
    ap (λ (l : List Sent). met_all within l rest) (met-itself within done r (map as_sent rest) ∙ one-more done r (map as_sent rest))
    ∙ all-itself within (done ++ r ∷ []) rest ∙ sym (one-more done r (map (λ r. taken (as_sent r)) rest))
  where
    one-more : (done : List Record) (r : Record) (ss : List Sent) → map (λ r. taken (as_sent r)) done ++ taken (as_sent r) ∷ ss ≡ map (λ r. taken (as_sent r)) (done ++ r ∷ []) ++ ss
    one-more [] r ss = refl
    one-more (d ∷ done) r ss = ap (λ (l : List Sent). taken (as_sent d) ∷ l) (one-more done r ss)

pub itself_is_whole : ItselfIsWhole
itself_is_whole within rs = all-itself within [] rs

-- ---- one record

or-false : (a b : Bool) → (a || b) ≡ false → (a ≡ false) × (b ≡ false)
or-false true b h = absurd cc
or-false false b h = (refl, h)

taken-not : (within : ℕ) (r : Record) (s : Sent) → is_met_by within r (taken s) ≡ false
taken-not within r s = refl

is-taken-not : (within : ℕ) (r : Record) (s : Sent) → s.is_taken ≡ true → is_met_by within r s ≡ false
is-taken-not within r s h = rw h refl

untaken : (within : ℕ) (r : Record) (s : Sent) → is_met_by within r s ≡ true → s.is_taken ≡ false
untaken within r s h = by s.is_taken refl
  where
    by : (q : Bool) → s.is_taken ≡ q → s.is_taken ≡ false
    by false g = g
    by true g = let other = is-taken-not within r s g in absurd cc

-- ---- each is told

pub met-known : (within : ℕ) (r : Record) (sent : List Sent) → is_known within r sent ≡ true → received_count (met within r sent) ≡ 1 + received_count sent
met-known within r [] h = absurd cc
met-known within r (s ∷ sent) h = by (is_met_by within r s) refl (λ later. met-known within r sent later)
  where
    by : (q : Bool) → is_met_by within r s ≡ q → (is_known within r sent ≡ true → received_count (met within r sent) ≡ 1 + received_count sent) → received_count (met within r (s ∷ sent)) ≡ 1 + received_count (s ∷ sent)
    by true g more = let own = untaken within r s g in rw (g, own) (omega arith)
    by false g more =
        let later : is_known within r sent ≡ true = rw g at h in
        let rest = more later in
        rw g (omega (arith, rest))

pub met-unknown : (within : ℕ) (r : Record) (sent : List Sent) → is_known within r sent ≡ false → met within r sent ≡ sent
met-unknown within r [] h = refl
met-unknown within r (s ∷ sent) h =
    let parts = or-false (is_met_by within r s) (is_known within r sent) h in
    rw parts.0 (ap (λ (l : List Sent). s ∷ l) (met-unknown within r sent parts.1))

each-among : (within : ℕ) (sent : List Sent) (rs : List Record) → received_count (met_all within sent rs) + length (lonely_among within sent rs) ≡ received_count sent + length rs
each-among within sent [] = refl
each-among within sent (r ∷ rs) = by (is_known within r sent) refl (each-among within (met within r sent) rs)
  where
    by : (q : Bool) → is_known within r sent ≡ q
        → received_count (met_all within (met within r sent) rs) + length (lonely_among within (met within r sent) rs) ≡ received_count (met within r sent) + length rs
        → received_count (met_all within sent (r ∷ rs)) + length (lonely_among within sent (r ∷ rs)) ≡ received_count sent + length (r ∷ rs)
    by true g rest =
        let more = met-known within r sent g in
        rw g (omega (arith, rest, more))
    by false g rest =
        let same = ap (λ (l : List Sent). received_count l) (met-unknown within r sent g) in
        rw g (omega (arith, rest, same))

none-yet : (rs : List Record) → received_count (map as_sent rs) ≡ 0
none-yet [] = refl
none-yet (r ∷ rs) = omega (arith, none-yet rs)

pub each_is_told : EachIsTold
each_is_told within sent received =
    let none : 0 + length received ≡ length received = omega arith in
    each-among within (map as_sent sent) received ∙ ap (λ (n : ℕ). n + length received) (none-yet sent) ∙ none

-- ---- none is left

stays-unknown : (within : ℕ) (q r : Record) (sent : List Sent) → is_known within q sent ≡ false → is_known within q (met within r sent) ≡ false
stays-unknown within q r [] h = refl
stays-unknown within q r (s ∷ sent) h =
    let parts = or-false (is_met_by within q s) (is_known within q sent) h in
    by (is_met_by within r s) refl parts.0 parts.1 (stays-unknown within q r sent parts.1)
  where
    by : (p : Bool) → is_met_by within r s ≡ p → is_met_by within q s ≡ false → is_known within q sent ≡ false → is_known within q (met within r sent) ≡ false → is_known within q (met within r (s ∷ sent)) ≡ false
    by true g own rest more = rw g rest
    by false g own rest more = rw (g, own) more

stays-unknown-all : (within : ℕ) (q : Record) (sent : List Sent) (rs : List Record) → is_known within q sent ≡ false → is_known within q (met_all within sent rs) ≡ false
stays-unknown-all within q sent [] h = h
stays-unknown-all within q sent (r ∷ rs) h = stays-unknown-all within q (met within r sent) rs (stays-unknown within q r sent h)

none-among : (within : ℕ) (sent : List Sent) (rs : List Record) → is_any_known within (lonely_among within sent rs) (met_all within sent rs) ≡ false
none-among within sent [] = refl
none-among within sent (r ∷ rs) = by (is_known within r sent) refl (none-among within (met within r sent) rs)
  where
    by : (q : Bool) → is_known within r sent ≡ q → is_any_known within (lonely_among within (met within r sent) rs) (met_all within (met within r sent) rs) ≡ false
        → is_any_known within (lonely_among within sent (r ∷ rs)) (met_all within sent (r ∷ rs)) ≡ false
    by true g more = rw g more
    by false g more =
        let own = stays-unknown-all within r (met within r sent) rs (stays-unknown within r r sent g) in
        rw (g, own) more

pub none_is_left : NoneIsLeft
none_is_left within sent received = none-among within (map as_sent sent) received

-- ---- what is held is enough

pub and-false : (a b : Bool) → b ≡ false → (a && b) ≡ false
and-false true b h = h
and-false false b h = refl

not-within : (within : ℕ) (r : Record) (s : Sent) → is_within within s.moment r.moment ≡ false → is_met_by within r s ≡ false
not-within within r s h = rw (and-false (not s.is_taken) (is_within within s.moment r.moment) h) refl

pub over-not : (within : ℕ) (r : Record) (s : Sent) → is_over within r.moment s ≡ true → is_met_by within r s ≡ false
over-not within r s h = by s.is_taken refl
  where
    by : (q : Bool) → s.is_taken ≡ q → is_met_by within r s ≡ false
    by true g = is-taken-not within r s g
    by false g =
        let past : nat_lt (s.moment + within) r.moment ≡ true = rw g at h in
        not-within within r s (and-false (nat_le s.moment r.moment) (nat_le r.moment (s.moment + within)) (lt-leb r.moment (s.moment + within) (ltb-true (s.moment + within) r.moment past)))

pub later-not : (within : ℕ) (r : Record) (s : Sent) → r.moment < s.moment → is_met_by within r s ≡ false
later-not within r s h = not-within within r s (rw (lt-leb s.moment r.moment h) refl)

none-later : (within : ℕ) (r : Record) (later : List Sent) → AreLater r.moment later → met within r later ≡ later
none-later within r [] h = refl
none-later within r (s ∷ later) h = rw (later-not within r s h.0) (ap (λ (l : List Sent). s ∷ l) (none-later within r later h.1))

pub held-enough : (within : ℕ) (r : Record) (held later : List Sent) → AreLater r.moment later → met within r (held ++ later) ≡ met within r held ++ later
held-enough within r [] later h = none-later within r later h
held-enough within r (s ∷ held) later h = by (is_met_by within r s) refl (held-enough within r held later h)
  where
    by : (q : Bool) → is_met_by within r s ≡ q → met within r (held ++ later) ≡ met within r held ++ later → met within r ((s ∷ held) ++ later) ≡ met within r (s ∷ held) ++ later
    by true g more = rw g refl
    by false g more = rw g (ap (λ (l : List Sent). s ∷ l) more)

pub held_is_enough : HeldIsEnough
held_is_enough within r [] held later over h = held-enough within r held later h
held_is_enough within r (s ∷ over) held later gone h = rw (over-not within r s gone.0) (ap (λ (l : List Sent). s ∷ l) (held_is_enough within r over held later gone.1 h))
