-- Laws of the parts that a text is cut into.
use Rattle.std.proofs.Common.{◌≡◌, ℕ, ◌+◌, ◌-◌, ◌≤◌, List, ◌++◌, length, take, drop, sym, ap, ◌∙◌, append_assoc, arith}
use Rattle.std.proofs.lemmas.List.{take-append-drop, take-take, take_at, take_rest, drop_at, drop-take, length-append, length-take, length-drop}
use Rattle.wire.specs.IpParts.{Parts, joined, cut}

-- the parts of a cut text, side by side, are the text
pub joined-cut : (n m : ℕ) (b : List ℕ) → n ≤ m → joined (cut n m b) ≡ b
joined-cut n m b h =
    let front : take n (take m b) ≡ take n b = take-take n m b h in
    ap (λ (z : List ℕ). z ++ (drop n (take m b) ++ drop m b)) (sym front)
    ∙ sym (append_assoc (take n (take m b)) (drop n (take m b)) (drop m b))
    ∙ ap (λ (z : List ℕ). z ++ drop m b) (take-append-drop n (take m b))
    ∙ take-append-drop m b

-- parts side by side are what their text is cut into at their lengths
pub cut-joined : (v : Parts) (n m : ℕ) → length v.head ≡ n → length v.head + length v.payload ≡ m → cut n m (joined v) ≡ v
cut-joined v n m e g =
    let joined_front = append_assoc v.head v.payload v.tail in
    let len = length-append v.head v.payload in
    let front : take m (joined v) ≡ v.head ++ v.payload = ap (take m) (sym joined_front) ∙ take_at (v.head ++ v.payload) v.tail m (len ∙ g) in
    let rest : drop m (joined v) ≡ v.tail = ap (drop m) (sym joined_front) ∙ drop_at (v.head ++ v.payload) v.tail m (len ∙ g) in
    let Make : List ℕ → List ℕ → List ℕ → Parts = λ h p t. record { head = h; payload = p; tail = t } in
    ap (λ (h : List ℕ). Make h (drop n (take m (joined v))) (drop m (joined v))) (take_at v.head (v.payload ++ v.tail) n e)
    ∙ ap (λ (p : List ℕ). Make v.head p (drop m (joined v))) (ap (drop n) front ∙ drop_at v.head v.payload n e)
    ∙ ap (λ (t : List ℕ). Make v.head v.payload t) rest

-- a text in three slices, behind its first n octets and behind its first m
abbrev pub sliced : ℕ → ℕ → List ℕ → Parts
sliced n m b = record { head = take n b; payload = take (m - n) (drop n b); tail = take (length b - m) (drop m b) }

pub sliced-cut : (n m : ℕ) (b : List ℕ) → n ≤ m → sliced n m b ≡ cut n m b
sliced-cut n m b h =
    let whole : n + (m - n) ≡ m = omega arith in
    let middle : take (m - n) (drop n b) ≡ drop n (take m b) = sym (drop-take n (m - n) b) ∙ ap (λ (i : ℕ). drop n (take i b)) whole in
    let Make : List ℕ → List ℕ → Parts = λ p t. record { head = take n b; payload = p; tail = t } in
    ap (λ (p : List ℕ). Make p (take (length b - m) (drop m b))) middle ∙ ap (λ (t : List ℕ). Make (drop n (take m b)) t) (take_rest b m)

-- the lengths of a cut text's head and payload
pub length-cut_head : (n m : ℕ) (b : List ℕ) → n ≤ length b → length (cut n m b).head ≡ n
length-cut_head n m b h = omega (arith, length-take n b)

pub length-cut_payload : (n m : ℕ) (b : List ℕ) → n ≤ m → m ≤ length b → n + length (cut n m b).payload ≡ m
length-cut_payload n m b h k = omega (arith, length-take m b, length-drop n (take m b))
