-- The options that a text is read as are those whose texts it is.
use Rattle.std.proofs.Common.{◌≡◌, ℕ, zero, suc, ◌+◌, ◌*◌, ◌/◌, ◌%◌, ◌≤◌, Bool, true, false, cond, ltb, List, [], ◌∷◌, ◌++◌, length, take, drop, Option, Some, None, refl, sym, ap, ◌∙◌, subst, arith, inl, inr}
use Rattle.std.specs.Prelude.{IsTrue, is_some, unwrap_or}
use Rattle.std.proofs.lemmas.Bool.{ltb-false, le-ltb, cond-false, cond-true, cases_Bool}
use Rattle.std.proofs.lemmas.List.{take-append-drop, length-take, length-drop, length-append, take_at, drop_at, drop-drop}
use Rattle.wire.specs.Octets.{IsText, octet, field}
use Rattle.wire.proofs.OctetsLemmas.{cell, octets2-field, field2-below, IsText-drop}
use Rattle.wire.specs.GeneveOptions.{TunnelOption, IsOptionText, AreOptionTexts, option_length, option_at, split_option, with_option, options_at, options_in}
use Rattle.wire.specs.GeneveReading.{OptionsWhereTheyAdd, OptionsNowhereElse}

-- ---- the texts of options are read as these

-- one option in front
option_front : (high low kind size n : ℕ) (body rest : List ℕ) (options : List TunnelOption) → length body ≡ 4 * (size % 32) → options_at n rest ≡ Some options
    → options_at (suc n) (high ∷ low ∷ kind ∷ size ∷ (body ++ rest)) ≡ Some (record { class = high * 256 + low; kind = kind; body = body } ∷ options)
option_front high low kind size n body rest options len read =
    let left = high ∷ low ∷ kind ∷ size ∷ (body ++ rest) in
    let data_length = 4 * (size % 32) in
    let long : ltb (length left) (4 + data_length) ≡ false = le-ltb _ _ (omega (arith, length-append body rest)) in
    let behind : drop (4 + data_length) left ≡ rest = sym (drop-drop data_length 4 left) ∙ drop_at body rest data_length len in
    let number : field 0 2 left ≡ high * 256 + low = omega arith in
    let option : TunnelOption = record { class = high * 256 + low; kind = kind; body = body } in
    let here : option_at left ≡ option =
    ap (λ (b : List ℕ). record { class = field 0 2 left; kind = kind; body = b }) (take_at body rest data_length len)
    ∙ ap (λ (c : ℕ). record { class = c; kind = kind; body = body }) number in
    cond-false _ None (with_option (option_at left) (options_at n (drop (4 + data_length) left))) long
    ∙ ap (λ (o : TunnelOption). with_option o (options_at n (drop (4 + data_length) left))) here
    ∙ ap (λ (r : List ℕ). with_option option (options_at n r)) behind
    ∙ ap (with_option option) read

options_at-texts : (n : ℕ) (options : List TunnelOption) (text : List ℕ) → AreOptionTexts options text → length text ≤ 4 * n → options_at n text ≡ Some options
options_at-texts n [] text empty room = ap (options_at n) empty ∙ none n
  where
    none : (n : ℕ) → options_at n [] ≡ Some []
    none zero = refl
    none (suc n) = refl
options_at-texts zero (option ∷ options) text texts room =
    let front = texts.2 in
    absurd (omega (arith, ap length texts.4, length-append texts.0 texts.1, ap length front.whole))
options_at-texts (suc n) (option ∷ options) text texts room =
    let front = texts.2 in
    let class = option.class in
    let fits = front.fits in
    let shape : text ≡ class / 256 % 256 ∷ class % 256 ∷ option.kind ∷ front.length_octet ∷ (option.body ++ texts.1) =
    texts.4 ∙ ap (λ (x : List ℕ). x ++ texts.1) front.whole in
    let fewer : length texts.1 ≤ 4 * n = omega (arith, ap length shape, length-append option.body texts.1) in
    let number : class / 256 % 256 * 256 + class % 256 ≡ class = omega arith in
    ap (options_at (suc n)) shape
    ∙ option_front (class / 256 % 256) (class % 256) option.kind front.length_octet n option.body texts.1 options front.quarter (options_at-texts n options texts.1 texts.3 fewer)
    ∙ ap (λ (c : ℕ). Some (record { class = c; kind = option.kind; body = option.body } ∷ options)) number

pub options_in-texts : OptionsNowhereElse
options_in-texts text options texts = options_at-texts (length text) options text texts (omega arith)

-- ---- the options that are read are in the text

with_option-some : (option : TunnelOption) (read : Option (List TunnelOption)) (options : List TunnelOption) → with_option option read ≡ Some options
    → (rest : List TunnelOption) × (read ≡ Some rest) × (option ∷ rest ≡ options)
with_option-some option None options e = absurd cc
with_option-some option (Some rest) options e = (rest, refl, cc)

-- what a test lets through
let_through : {A : Type 0} (b : Bool) (x : Option A) (y : A) → cond b None x ≡ Some y → (b ≡ false) × (x ≡ Some y)
let_through true x y e = absurd cc
let_through false x y e = (refl, e)

some_is : (options others : List TunnelOption) → Some options ≡ Some others → options ≡ others
some_is options others e = cc

-- four octets and n more
front4 : (n : ℕ) (left : List ℕ) → 4 + n ≤ length left → take (4 + n) left ≡ octet 0 left ∷ octet 1 left ∷ octet 2 left ∷ octet 3 left ∷ take n (drop 4 left)
front4 n left long =
    let rest = drop 4 left in
    let front = octet 0 left ∷ octet 1 left ∷ octet 2 left ∷ octet 3 left ∷ take n rest in
    let cells : left ≡ octet 0 left ∷ octet 1 left ∷ octet 2 left ∷ octet 3 left ∷ rest =
    cell 0 left (omega arith) ∙ ap (λ (q : List ℕ). octet 0 left ∷ q) (cell 1 left (omega arith)
    ∙ ap (λ (q : List ℕ). octet 1 left ∷ q) (cell 2 left (omega arith)
    ∙ ap (λ (q : List ℕ). octet 2 left ∷ q) (cell 3 left (omega arith)))) in
    let whole : left ≡ front ++ drop n rest = cells ∙ ap (λ (q : List ℕ). octet 0 left ∷ octet 1 left ∷ octet 2 left ∷ octet 3 left ∷ q) (sym (take-append-drop n rest)) in
    ap (take (4 + n)) whole ∙ take_at front (drop n rest) (4 + n) (omega (arith, length-take n rest, length-drop 4 left))

texts-options_at : (n : ℕ) (text : List ℕ) (options : List TunnelOption) → IsText text → options_at n text ≡ Some options → AreOptionTexts options text
texts-options_at zero [] options octets_are e = subst (λ (q : List TunnelOption). AreOptionTexts q []) (some_is [] options e) refl
texts-options_at (suc n) [] options octets_are e = subst (λ (q : List TunnelOption). AreOptionTexts q []) (some_is [] options e) refl
texts-options_at zero (x ∷ text) options octets_are e = absurd cc
texts-options_at (suc n) (x ∷ text) options octets_are e =
    let left = x ∷ text in
    let data_length = 4 * (octet 3 left % 32) in
    let through = let_through (ltb (length left) (4 + data_length)) (with_option (option_at left) (options_at n (drop (4 + data_length) left))) options e in
    let long = ltb-false _ _ through.0 in
    let others = with_option-some (option_at left) (options_at n (drop (4 + data_length) left)) options through.1 in
    let rest = drop (4 + data_length) left in
    let front = take (4 + data_length) left in
    let later = texts-options_at n rest others.0 (IsText-drop (4 + data_length) left octets_are) others.1 in
    let len : length (option_at left).body ≡ data_length = omega (arith, length-take data_length (drop 4 left), length-drop 4 left) in
    let cells : front ≡ octet 0 left ∷ octet 1 left ∷ octet 2 left ∷ octet 3 left ∷ (option_at left).body = front4 data_length left (omega arith) in
    let one : IsOptionText (option_at left) front = record {
      length_octet = octet 3 left;
      fits = (field2-below 0 left octets_are, octets_are 2, octets_are 3);
      quarter = len;
      whole = cells ∙ ap (λ (y : List ℕ). y ++ octet 2 left ∷ octet 3 left ∷ (option_at left).body) (sym (octets2-field 0 left octets_are));
    } in
    subst (λ (q : List TunnelOption). AreOptionTexts q left) others.2 (front, rest, one, later, sym (take-append-drop (4 + data_length) left))

pub texts-options_in : OptionsWhereTheyAdd
texts-options_in text options octets_are e = texts-options_at (length text) text options octets_are e

-- ---- one option after the other

-- more that may come change nothing
options_at-enough : (n m : ℕ) (text : List ℕ) → length text ≤ n → length text ≤ m → options_at n text ≡ options_at m text
options_at-enough zero zero [] p q = refl
options_at-enough zero (suc m) [] p q = refl
options_at-enough (suc n) zero [] p q = refl
options_at-enough (suc n) (suc m) [] p q = refl
options_at-enough zero m (x ∷ text) p q = absurd (omega arith)
options_at-enough (suc n) zero (x ∷ text) p q = absurd (omega arith)
options_at-enough (suc n) (suc m) (x ∷ text) p q =
    let left = x ∷ text in
    let size = option_length left in
    let rest = drop size left in
    let fewer = length-drop size left in
    ap (λ (r : Option (List TunnelOption)). cond (ltb (length left) size) None (with_option (option_at left) r)) (options_at-enough n m rest (omega arith) (omega arith))

-- the options of a text by the first of them; a text that begins with no whole option has none, or isn't those of options
abbrev pub behind_split : Option (TunnelOption × List ℕ) → List ℕ → Option (List TunnelOption)
behind_split None [] = Some []
behind_split None (x ∷ text) = None
behind_split (Some split) text = with_option split.0 (options_in split.1)

pub options_in-split : (text : List ℕ) → options_in text ≡ behind_split (split_option text) text
options_in-split [] = refl
options_in-split (x ∷ text) =
    let left = x ∷ text in
    let size = option_length left in
    let rest = drop size left in
    let whole : Option (TunnelOption × List ℕ) = Some (option_at left, rest) in
    let behind : Option (TunnelOption × List ℕ) → Option (List TunnelOption) = λ split. behind_split split left in
    elim (cases_Bool (ltb (length left) size)) [
      | inl short ↦ cond-true _ None (with_option (option_at left) (options_at (length text) rest)) short ∙ sym (ap behind (cond-true _ None whole short))
      | inr long ↦ cond-false _ None (with_option (option_at left) (options_at (length text) rest)) long
          ∙ ap (with_option (option_at left)) (options_at-enough (length text) (length rest) rest (omega (arith, length-drop size left)) (omega arith))
          ∙ sym (ap behind (cond-false _ None whole long))
    ]

-- where the options are those of the text, so are those behind the first
pub options_in-next : (text : List ℕ) (split : TunnelOption × List ℕ) → split_option text ≡ Some split → IsTrue (is_some (options_in text))
    → IsTrue (is_some (options_in split.1)) × (unwrap_or (options_in text) [] ≡ split.0 ∷ unwrap_or (options_in split.1) [])
options_in-next text split e there =
    let read : options_in text ≡ with_option split.0 (options_in split.1) = options_in-split text ∙ ap (λ (s : Option (TunnelOption × List ℕ)). behind_split s text) e in
    of (options_in split.1) (ap is_some (sym read) ∙ there) (ap (λ (os : Option (List TunnelOption)). unwrap_or os []) read)
  where
    of : (others : Option (List TunnelOption)) → IsTrue (is_some (with_option split.0 others)) → unwrap_or (options_in text) [] ≡ unwrap_or (with_option split.0 others) []
        → IsTrue (is_some others) × (unwrap_or (options_in text) [] ≡ split.0 ∷ unwrap_or others [])
    of None t q = absurd cc
    of (Some options) t q = (refl, q)

-- an option takes four octets or more
few_at : (n : ℕ) (text : List ℕ) (options : List TunnelOption) → options_at n text ≡ Some options → 4 * length options ≤ length text
few_at zero [] options e = omega (arith, ap length (some_is [] options e))
few_at (suc n) [] options e = omega (arith, ap length (some_is [] options e))
few_at zero (x ∷ text) options e = absurd cc
few_at (suc n) (x ∷ text) options e =
    let left = x ∷ text in
    let size = option_length left in
    let through = let_through (ltb (length left) size) (with_option (option_at left) (options_at n (drop size left))) options e in
    let long = ltb-false _ _ through.0 in
    let others = with_option-some (option_at left) (options_at n (drop size left)) options through.1 in
    omega (arith, few_at n (drop size left) others.0 others.1, ap length others.2, length-drop size left)

pub options_in-few : (text : List ℕ) → 4 * length (unwrap_or (options_in text) []) ≤ length text
options_in-few text = of (options_in text) refl
  where
    of : (read : Option (List TunnelOption)) → options_in text ≡ read → 4 * length (unwrap_or read []) ≤ length text
    of None e = omega arith
    of (Some options) e = few_at (length text) text options e
