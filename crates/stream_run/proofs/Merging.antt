-- The event that comes first is the first of those that are to come.
use Rattle.std.proofs.Common.{◌≡◌, ◌∙◌, refl, sym, ap, subst, ℕ, zero, suc, ◌<◌, ◌≤◌, cond, List, [], ◌∷◌, ◌++◌, append_assoc, length, drop, slice_index_or, slice_set, arith, Option, Some, None}
use Rattle.std.specs.List.{AllByRecursion}
use Rattle.std.proofs.lemmas.Bool.{le-ltb, lt-ltb}
use Rattle.timeline.proofs.KnownEvents.{all-append}
use Rattle.timeline.proofs.Orders.{all_merged}
use Rattle.timeline.specs.Order.{IsRising, merged, put_in}
use Rattle.timeline.specs.declared.event.Event.{Event}
use Rattle.stream_run.specs.Coming.{left_behind}
use Rattle.stream_run.specs.Turns.{IsLater, IsNoSooner}
use Rattle.stream_run.specs.declared.turn.Turn.{Turn}

-- ---- an event with later ones in front of it and none before it behind it

before_all : (e : Event) (es : List Event) → AllByRecursion (λ f. e.moment ≤ f.moment) es → put_in e es ≡ e ∷ es
before_all e [] h = refl
before_all e (f ∷ fs) h = ap (λ b. cond b (f ∷ put_in e fs) (e ∷ f ∷ fs)) (le-ltb f.moment e.moment h.0)

least_first : (before : List Event) (e : Event) (behind : List Event) → AllByRecursion (λ f. e.moment < f.moment) before → AllByRecursion (λ f. e.moment ≤ f.moment) behind
    → merged (before ++ e ∷ behind) ≡ e ∷ merged (before ++ behind)
least_first [] e behind later no_sooner = before_all e (merged behind) (all_merged (λ f. e.moment ≤ f.moment) behind no_sooner)
least_first (f ∷ before) e behind later no_sooner =
    ap (put_in f) (least_first before e behind later.1 no_sooner)
    ∙ ap (λ b. cond b (e ∷ put_in f (merged (before ++ behind))) (f ∷ e ∷ merged (before ++ behind))) (lt-ltb e.moment f.moment later.0)

-- ---- one source

-- the moment of the first of some events
abbrev pub first_moment : List Event → Option ℕ
first_moment [] = None
first_moment (e ∷ es) = Some e.moment

pub rising_less : (n m : ℕ) (es : List Event) → n ≤ m → IsRising m es → IsRising n es
rising_less n m [] le h = tt
rising_less n m (e ∷ es) le h = (omega (arith, h.0, le), h.1)

rising_left : (least k : ℕ) (es : List Event) → IsRising least es → IsRising least (drop k es)
rising_left least zero es h = h
rising_left least (suc k) [] h = tt
rising_left least (suc k) (e ∷ es) h = rising_less least e.moment (drop k es) h.0 (rising_left e.moment k es h.1)

all_no_sooner : (n m : ℕ) (es : List Event) → n ≤ m → IsRising m es → AllByRecursion (λ f. n ≤ f.moment) es
all_no_sooner n m [] le h = tt
all_no_sooner n m (e ∷ es) le h = (omega (arith, h.0, le), all_no_sooner n e.moment es (omega (arith, h.0, le)) h.1)

all_later : (n m : ℕ) (es : List Event) → n < m → IsRising m es → AllByRecursion (λ f. n < f.moment) es
all_later n m [] lt h = tt
all_later n m (e ∷ es) lt h = (omega (arith, h.0, lt), all_later n e.moment es (omega (arith, h.0, lt)) h.1)

source_later : (m : ℕ) (es : List Event) (next : Option ℕ) → next ≡ first_moment es → IsRising 0 es → IsLater m next → AllByRecursion (λ f. m < f.moment) es
source_later m [] next is rises later = tt
source_later m (e ∷ es) next is rises later = let lt = subst (IsLater m) is later in (lt, all_later m e.moment es lt rises.1)

source_no_sooner : (m : ℕ) (es : List Event) (next : Option ℕ) → next ≡ first_moment es → IsRising 0 es → IsNoSooner m next → AllByRecursion (λ f. m ≤ f.moment) es
source_no_sooner m [] next is rises le = tt
source_no_sooner m (e ∷ es) next is rises le = let first = subst (IsNoSooner m) is le in (first, all_no_sooner m e.moment es first rises.1)

-- ---- all sources

-- each turn tells the moment of the first event that is left of its source, whose events rise
pub record AreAhead (turns : List Turn) (sources : List (List Event)) : Type 0 where
  pub many : length sources ≡ length turns
  pub next : (t : Turn) (k : ℕ) → k < length turns → (slice_index_or turns k t).next ≡ first_moment (drop (slice_index_or turns k t).done (slice_index_or sources k []))
  pub rises : (k : ℕ) → k < length sources → IsRising 0 (slice_index_or sources k [])

ahead_behind : (t : Turn) (ts : List Turn) (es : List Event) (others : List (List Event)) → AreAhead (t ∷ ts) (es ∷ others) → AreAhead ts others
ahead_behind t ts es others ahead =
    record { many = omega (arith, ahead.many); next = λ d k lt. ahead.next d (suc k) (omega arith); rises = λ k lt. ahead.rises (suc k) (omega arith) }

left_no_sooner : (m : ℕ) (turns : List Turn) (sources : List (List Event)) → AreAhead turns sources → ((t : Turn) (k : ℕ) → k < length turns → IsNoSooner m (slice_index_or turns k t).next)
    → AllByRecursion (λ f. m ≤ f.moment) (left_behind turns sources)
left_no_sooner m [] sources ahead h = tt
left_no_sooner m (t ∷ ts) [] ahead h = tt
left_no_sooner m (t ∷ ts) (es ∷ others) ahead h =
    all-append (λ f. m ≤ f.moment) (drop t.done es) (left_behind ts others)
    (source_no_sooner m (drop t.done es) t.next (ahead.next t 0 (omega arith)) (rising_left 0 t.done es (ahead.rises 0 (omega arith))) (h t 0 (omega arith)))
    (left_no_sooner m ts others (ahead_behind t ts es others ahead) (λ d k lt. h d (suc k) (omega arith)))

-- one event stands among those that are left, behind later ones and before none that comes sooner
record Splits (turns new : List Turn) (sources : List (List Event)) (e : Event) : Type 0 where
  pub before : List Event
  pub behind : List Event
  pub with_it : left_behind turns sources ≡ before ++ e ∷ behind
  pub without_it : left_behind new sources ≡ before ++ behind
  pub later : AllByRecursion (λ f. e.moment < f.moment) before
  pub no_sooner : AllByRecursion (λ f. e.moment ≤ f.moment) behind

splits : (turns : List Turn) (sources : List (List Event)) (i : ℕ) (e : Event) (turn d : Turn) → AreAhead turns sources → i < length turns
    → drop (slice_index_or turns i d).done (slice_index_or sources i []) ≡ e ∷ drop turn.done (slice_index_or sources i [])
    → ((t : Turn) (k : ℕ) → k < i → IsLater e.moment (slice_index_or turns k t).next) → ((t : Turn) (k : ℕ) → k < length turns → IsNoSooner e.moment (slice_index_or turns k t).next)
    → Splits turns (slice_set turns i turn) sources e
splits [] sources i e turn d ahead there here later no_sooner = absurd (omega (arith, there))
splits (t ∷ ts) [] i e turn d ahead there here later no_sooner = absurd (omega (arith, ahead.many))
splits (t ∷ ts) (es ∷ others) zero e turn d ahead there here later no_sooner =
    let rises : IsRising 0 (e ∷ drop turn.done es) = subst (IsRising 0) here (rising_left 0 t.done es (ahead.rises 0 (omega arith))) in
    record {
      before = [];
      behind = drop turn.done es ++ left_behind ts others;
      with_it = ap (λ l. l ++ left_behind ts others) here;
      without_it = refl;
      later = tt;
      no_sooner = all-append (λ f. e.moment ≤ f.moment) (drop turn.done es) (left_behind ts others) (all_no_sooner e.moment e.moment (drop turn.done es) (omega arith) rises.1)
          (left_no_sooner e.moment ts others (ahead_behind t ts es others ahead) (λ d k lt. no_sooner d (suc k) (omega arith)));
    }
splits (t ∷ ts) (es ∷ others) (suc i) e turn d ahead there here later no_sooner =
    let rest = splits ts others i e turn d (ahead_behind t ts es others ahead) (omega arith) here (λ d k lt. later d (suc k) (omega arith)) (λ d k lt. no_sooner d (suc k) (omega arith)) in
    record {
      before = drop t.done es ++ rest.before;
      behind = rest.behind;
      with_it = ap (λ l. drop t.done es ++ l) rest.with_it ∙ sym (append_assoc (drop t.done es) rest.before (e ∷ rest.behind));
      without_it = ap (λ l. drop t.done es ++ l) rest.without_it ∙ sym (append_assoc (drop t.done es) rest.before rest.behind);
      later = all-append (λ f. e.moment < f.moment) (drop t.done es) rest.before
          (source_later e.moment (drop t.done es) t.next (ahead.next t 0 (omega arith)) (rising_left 0 t.done es (ahead.rises 0 (omega arith))) (later t 0 (omega arith)))
          rest.later;
      no_sooner = rest.no_sooner;
    }

pub comes_first : (turns : List Turn) (sources : List (List Event)) (i : ℕ) (e : Event) (turn d : Turn) → AreAhead turns sources → i < length turns
    → drop (slice_index_or turns i d).done (slice_index_or sources i []) ≡ e ∷ drop turn.done (slice_index_or sources i [])
    → ((t : Turn) (k : ℕ) → k < i → IsLater e.moment (slice_index_or turns k t).next) → ((t : Turn) (k : ℕ) → k < length turns → IsNoSooner e.moment (slice_index_or turns k t).next)
    → merged (left_behind turns sources) ≡ e ∷ merged (left_behind (slice_set turns i turn) sources)
comes_first turns sources i e turn d ahead there here later no_sooner =
    let split = splits turns sources i e turn d ahead there here later no_sooner in
    ap merged split.with_it ∙ least_first split.before e split.behind split.later split.no_sooner ∙ ap (λ l. e ∷ merged l) (sym split.without_it)

-- ---- none is left

nothing : (es : List Event) (next : Option ℕ) → next ≡ first_moment es → next ≡ None → es ≡ []
nothing [] next is none = refl
nothing (e ∷ es) next is none = absurd cc

pub none_left : (turns : List Turn) (sources : List (List Event)) → AreAhead turns sources → ((t : Turn) (k : ℕ) → k < length turns → (slice_index_or turns k t).next ≡ None) → left_behind turns sources ≡ []
none_left [] sources ahead h = refl
none_left (t ∷ ts) [] ahead h = refl
none_left (t ∷ ts) (es ∷ others) ahead h =
    ap (λ l. l ++ left_behind ts others) (nothing (drop t.done es) t.next (ahead.next t 0 (omega arith)) (h t 0 (omega arith)))
    ∙ none_left ts others (ahead_behind t ts es others ahead) (λ d k lt. h d (suc k) (omega arith))

-- ---- all are left

-- the events of all sources, side by side
abbrev pub side_by_side : List (List Event) → List Event
side_by_side [] = []
side_by_side (es ∷ others) = es ++ side_by_side others

pub all_left : (turns : List Turn) (sources : List (List Event)) → length sources ≡ length turns → ((t : Turn) (k : ℕ) → k < length turns → (slice_index_or turns k t).done ≡ 0) → left_behind turns sources ≡ side_by_side sources
all_left [] [] many h = refl
all_left [] (es ∷ others) many h = absurd (omega (arith, many))
all_left (t ∷ ts) [] many h = absurd (omega (arith, many))
all_left (t ∷ ts) (es ∷ others) many h =
    ap (λ n. drop n es ++ left_behind ts others) (h t 0 (omega arith)) ∙ ap (λ l. es ++ l) (all_left ts others (omega (arith, many)) (λ d k lt. h d (suc k) (omega arith)))
