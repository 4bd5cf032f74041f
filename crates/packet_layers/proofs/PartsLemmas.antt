-- Parts stay parts of the text where one of them is split further.
use Rattle.std.proofs.Common.{◌≡◌, ℕ, ◌+◌, ltb, Bool, true, false, cond, List, [], ◌∷◌, ◌++◌, length, map, take, drop, refl, sym, ap, ◌∙◌, subst, append_assoc, arith}
use Rattle.std.specs.Prelude.{All}
use Rattle.std.specs.List.{concat}
use Rattle.std.proofs.lemmas.Bool.{ltb-false}
use Rattle.std.proofs.lemmas.List.{length-append, take-take, drop-take, drop-drop, take_at, drop_at, take-append-drop, map-append, append-nil}
use Rattle.std.proofs.lemmas.List.Elements.{All-nil, All-cons, All-append, All-push}
use Rattle.std.proofs.lemmas.List.Folds.{concat-append}
use Rattle.std.proofs.Math.Seq.{take-length}
use Rattle.wire.specs.IpParts.{Parts, joined as side_by_side}
use Rattle.packet_layers.specs.declared.kind.HeadKind.{HeadKind}
use Rattle.packet_layers.specs.Apart.{Span, Head, Apart, whole, tail_at, split, front, put, joined}
use Rattle.packet_layers.specs.Laws.{StandsAt, AllStand}

-- ---- octets that stand at a place

-- of two texts side by side each stands at its place
first_stands : (b : List ℕ) (k : ℕ) (x w : List ℕ) → StandsAt b k (x ++ w) → StandsAt b k x
first_stands b k x w h =
    let len = length-append x w in
    sym (take_at x w (length x) refl)
    ∙ ap (take (length x)) h
    ∙ take-take (length x) (length (x ++ w)) (drop k b) (omega arith)

second_stands : (b : List ℕ) (k : ℕ) (x w : List ℕ) → StandsAt b k (x ++ w) → StandsAt b (k + length x) w
second_stands b k x w h =
    sym (drop_at x w (length x) refl)
    ∙ ap (drop (length x)) (h ∙ ap (λ (n : ℕ). take n (drop k b)) (length-append x w))
    ∙ drop-take (length x) (length w) (drop k b)
    ∙ ap (take (length w)) (drop-drop (length x) k b)

-- ---- all parts side by side

abbrev heads_text : List Head → List ℕ
heads_text heads = concat (map (λ (h : Head). h.octets) heads)

abbrev tails_text : List Span → List ℕ
tails_text tails = concat (map (λ (t : Span). t.octets) tails)

heads_text-append : (xs ys : List Head) → heads_text (xs ++ ys) ≡ heads_text xs ++ heads_text ys
heads_text-append xs ys =
    ap concat (map-append (λ (h : Head). h.octets) xs ys) ∙ concat-append (map (λ (h : Head). h.octets) xs) (map (λ (h : Head). h.octets) ys)

tails_text-append : (xs ys : List Span) → tails_text (xs ++ ys) ≡ tails_text xs ++ tails_text ys
tails_text-append xs ys =
    ap concat (map-append (λ (t : Span). t.octets) xs ys) ∙ concat-append (map (λ (t : Span). t.octets) xs) (map (λ (t : Span). t.octets) ys)

nothing : (t : List ℕ) → length t ≡ 0 → [] ≡ t
nothing [] h = refl
nothing (x ∷ t) h = absurd (omega arith)

tails_text-at : (place : ℕ) (t : List ℕ) → tails_text (tail_at place t) ≡ t
tails_text-at place t = by_test (ltb 0 (length t)) (λ e. nothing t (let none = ltb-false 0 (length t) e in omega arith))
  where
    by_test : (b : Bool) → (b ≡ false → [] ≡ t) → tails_text (cond b (record { place = place; octets = t } ∷ []) []) ≡ t
    by_test true h = append-nil t
    by_test false h = h refl

regroup : (hs h p t ts : List ℕ) → (hs ++ h) ++ (p ++ (t ++ ts)) ≡ hs ++ ((h ++ (p ++ t)) ++ ts)
regroup hs h p t ts = simp append_assoc

pub joined-split : (kind : HeadKind) (v : Parts) (a : Apart) → side_by_side v ≡ a.payload.octets → joined (split kind v a) ≡ joined a
joined-split kind v a whole_is =
    let place = a.payload.place + length v.head + length v.payload in
    let h : Head = record { kind = kind; place = a.payload.place; octets = v.head } in
    let in_front : heads_text (a.heads ++ h ∷ []) ≡ heads_text a.heads ++ v.head =
    heads_text-append a.heads (h ∷ []) ∙ ap (λ (x : List ℕ). heads_text a.heads ++ x) (append-nil v.head) in
    let behind : tails_text (tail_at place v.tail ++ a.tails) ≡ v.tail ++ tails_text a.tails =
    tails_text-append (tail_at place v.tail) a.tails ∙ ap (λ (x : List ℕ). x ++ tails_text a.tails) (tails_text-at place v.tail) in
    ap (λ (x : List ℕ). x ++ (v.payload ++ tails_text (tail_at place v.tail ++ a.tails))) in_front
    ∙ ap (λ (x : List ℕ). (heads_text a.heads ++ v.head) ++ (v.payload ++ x)) behind
    ∙ regroup (heads_text a.heads) v.head v.payload v.tail (tails_text a.tails)
    ∙ ap (λ (x : List ℕ). heads_text a.heads ++ (x ++ tails_text a.tails)) whole_is

-- ---- each part at its place

tail_stands : (b : List ℕ) (place : ℕ) (t : List ℕ) → StandsAt b place t → All (λ (s : Span). StandsAt b s.place s.octets) (tail_at place t)
tail_stands b place t h = by_test (ltb 0 (length t))
  where
    by_test : (x : Bool) → All (λ (s : Span). StandsAt b s.place s.octets) (cond x (record { place = place; octets = t } ∷ []) [])
    by_test true = All-cons (λ (s : Span). StandsAt b s.place s.octets) (record { place = place; octets = t }) [] h (All-nil (λ (s : Span). StandsAt b s.place s.octets))
    by_test false = All-nil (λ (s : Span). StandsAt b s.place s.octets)

pub stand-split : (b : List ℕ) (kind : HeadKind) (v : Parts) (a : Apart) → side_by_side v ≡ a.payload.octets → AllStand b a → AllStand b (split kind v a)
stand-split b kind v a whole_is s =
    let k = a.payload.place in
    let all : StandsAt b k (v.head ++ (v.payload ++ v.tail)) = subst (λ (x : List ℕ). StandsAt b k x) (sym whole_is) s.payload in
    let rest = second_stands b k v.head (v.payload ++ v.tail) all in
    let place = k + length v.head + length v.payload in
    record {
      heads = All-push (λ (h : Head). StandsAt b h.place h.octets) a.heads (record { kind = kind; place = k; octets = v.head }) s.heads
          (first_stands b k v.head (v.payload ++ v.tail) all);
      payload = first_stands b (k + length v.head) v.payload v.tail rest;
      tails = All-append (λ (t : Span). StandsAt b t.place t.octets) (tail_at place v.tail) a.tails
          (tail_stands b place v.tail (second_stands b (k + length v.head) v.payload v.tail rest)) s.tails;
    }

-- ---- both

-- the parts are those of the text b
pub record IsOf (b : List ℕ) (a : Apart) : Type 0 where
  pub joined : joined a ≡ b
  pub stand : AllStand b a

pub IsOf-whole : (b : List ℕ) → IsOf b (whole b)
IsOf-whole b = record {
  joined = append-nil b;
  stand = record {
    heads = All-nil (λ (h : Head). StandsAt b h.place h.octets);
    payload = sym (take-length b);
    tails = All-nil (λ (t : Span). StandsAt b t.place t.octets);
  };
}

pub IsOf-split : (b : List ℕ) (kind : HeadKind) (v : Parts) (a : Apart) → side_by_side v ≡ a.payload.octets → IsOf b a → IsOf b (split kind v a)
IsOf-split b kind v a whole_is h =
    record { joined = joined-split kind v a whole_is ∙ h.joined; stand = stand-split b kind v a whole_is h.stand }

pub IsOf-put : (b : List ℕ) (kind : HeadKind) (n : ℕ) (a : Apart) → IsOf b a → IsOf b (put kind n a)
IsOf-put b kind n a h =
    let x = a.payload.octets in
    IsOf-split b kind (front n x) a (ap (λ (y : List ℕ). take n x ++ y) (append-nil (drop n x)) ∙ take-append-drop n x) h
