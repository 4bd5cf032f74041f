-- Records that came again.
use Rattle.std.proofs.Common.{◌≡◌, ℕ, zero, suc, ◌+◌, ◌-◌, ◌^◌, ◌<◌, ◌≤◌, min, Bool, true, false, ◌||◌, if◌then◌else◌, List, [], ◌∷◌, ◌++◌, drop, get_or, length, refl, sym, ap, ◌∙◌, arith, length-append, length-drop}
use Rattle.std.proofs.Math.Seq.{drop-nil}
use Rattle.std.proofs.lemmas.List.{append-nil, drop-append-le}
use Rattle.std.specs.List.{FoldsTo}
use Rattle.record_match.specs.Lengths.{one_more}
use Rattle.record_match.specs.Match.{Record}
use Rattle.record_match.specs.Settled.{Fact, Both, ReceivedAlone, SentAlone}
use Rattle.compare_reports.specs.Doubled.{DoubledIsOfItsFacts, Recent, both_in, doubled_among, is_any_same, is_doubled, is_same_record, latest_of, no_recent, recent_with}
use Rattle.compare_reports.proofs.Ordering.{fits-if, more-if}

twice : (m n : ℕ) (xs : List Record) → drop n (drop m xs) ≡ drop (m + n) xs
twice zero n xs = let e : n ≡ 0 + n = omega arith in ap (λ (m : ℕ). drop m xs) e
twice (suc m) n [] = drop-nil n ∙ sym (drop-nil (suc m + n))
twice (suc m) n (x ∷ xs) = let e : suc (m + n) ≡ suc m + n = omega arith in twice m n xs ∙ ap (λ (k : ℕ). drop k (x ∷ xs)) e

-- the latest of the latest and one more
latest-more : (xs : List Record) (r : Record) → latest_of (latest_of xs ++ r ∷ []) ≡ latest_of (xs ++ r ∷ [])
latest-more xs r =
    let m = length xs - 256 in
    let all = xs ++ r ∷ [] in
    let cut : drop m all ≡ latest_of xs ++ r ∷ [] = drop-append-le m xs (r ∷ []) (omega arith) in
    let n : length all ≡ length xs + 1 = length-append xs (r ∷ []) in
    let k : length (drop m all) ≡ length all - m = length-drop m all in
    let sum : m + (length (drop m all) - 256) ≡ length all - 256 = omega (arith, n, k) in
    ap latest_of (sym cut) ∙ twice m (length (drop m all) - 256) all ∙ ap (λ (i : ℕ). drop i all) sum

both-append : (xs ys : List Fact) → both_in (xs ++ ys) ≡ both_in xs ++ both_in ys
both-append [] ys = refl
both-append (Both m n r ∷ xs) ys = ap (λ (rs : List Record). r ∷ rs) (both-append xs ys)
both-append (ReceivedAlone n r ∷ xs) ys = both-append xs ys
both-append (SentAlone n r ∷ xs) ys = both-append xs ys

latest-with : (front : List Fact) (fact : Fact) (c : Recent) → c.latest ≡ latest_of (both_in front) → (recent_with fact c).latest ≡ latest_of (both_in (front ++ fact ∷ []))
latest-with front (Both m n r) c h =
    ap (λ (rs : List Record). latest_of (rs ++ r ∷ [])) h ∙ latest-more (both_in front) r ∙ ap latest_of (sym (both-append front (Both m n r ∷ [])))
latest-with front (ReceivedAlone n r) c h = h ∙ ap latest_of (sym (both-append front (ReceivedAlone n r ∷ []) ∙ append-nil (both_in front)))
latest-with front (SentAlone n r) c h = h ∙ ap latest_of (sym (both-append front (SentAlone n r ∷ []) ∙ append-nil (both_in front)))

counts-one : (front : List Fact) (fact : Fact) (c : Recent) → c.latest ≡ latest_of (both_in front)
    → (recent_with fact c).doubled ≡ (if is_doubled front fact then one_more c.doubled else c.doubled)
counts-one front (Both m n r) c h = refl
counts-one front (ReceivedAlone n r) c h = ap (λ (rs : List Record). if is_any_same r rs then one_more c.doubled else c.doubled) h
counts-one front (SentAlone n r) c h = refl

all-doubled : (front facts : List Fact) (c new : Recent) → c.latest ≡ latest_of (both_in front) → c.doubled ≤ 2 ^ 64 - 1 → FoldsTo (λ old fact new. new ≡ recent_with fact old) c facts new
    → new.doubled ≡ min (c.doubled + doubled_among front facts) (2 ^ 64 - 1)
all-doubled front [] c new h few told = omega (arith, few, ap (λ (x : Recent). x.doubled) told)
all-doubled front (fact ∷ facts) c new h few told =
    let now : told.0 ≡ recent_with fact c = told.1 in
    let one : told.0.doubled ≡ (if is_doubled front fact then one_more c.doubled else c.doubled) = ap (λ (x : Recent). x.doubled) now ∙ counts-one front fact c h in
    let latest : told.0.latest ≡ latest_of (both_in (front ++ fact ∷ [])) = ap (λ (x : Recent). x.latest) now ∙ latest-with front fact c h in
    more-if (is_doubled front fact) told.0.doubled c.doubled (doubled_among (front ++ fact ∷ []) facts) new.doubled one
    (all-doubled (front ++ fact ∷ []) facts told.0 new latest (fits-if (is_doubled front fact) told.0.doubled c.doubled one few) told.2) few

pub doubled_is_of_its_facts : DoubledIsOfItsFacts
doubled_is_of_its_facts facts recent told =
    let none : 0 + doubled_among [] facts ≡ doubled_among [] facts = omega arith in
    all-doubled [] facts no_recent recent refl (omega arith) told ∙ ap (λ (n : ℕ). min n (2 ^ 64 - 1)) none

-- ---- whether one is held

pub none-same : (r : Record) (rs : List Record) → ((k : ℕ) (d : Record) → k < length rs → is_same_record r (get_or rs k d) ≡ false) → is_any_same r rs ≡ false
none-same r [] none = refl
none-same r (s ∷ ss) none =
    ap (λ (q : Bool). q || is_any_same r ss) (none 0 r (omega arith)) ∙ none-same r ss (λ k d lt. none (suc k) d (omega (arith, lt)))

pub some-same : (r : Record) (rs : List Record) (i : ℕ) (d : Record) → i < length rs → is_same_record r (get_or rs i d) ≡ true → is_any_same r rs ≡ true
some-same r [] i d lt same = absurd (omega (arith, lt))
some-same r (s ∷ ss) zero d lt same = ap (λ (q : Bool). q || is_any_same r ss) same
some-same r (s ∷ ss) (suc i) d lt same = by (is_same_record r s) (some-same r ss i d (omega (arith, lt)) same)
  where
    by : (q : Bool) → is_any_same r ss ≡ true → (q || is_any_same r ss) ≡ true
    by true rest = refl
    by false rest = rest
