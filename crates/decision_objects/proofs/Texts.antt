-- Texts that are put one behind another.
use Rattle.std.proofs.Common.{◌≡◌, ◌∙◌, ap, refl, ℕ, List, ◌++◌, append_assoc}

-- two of them behind another
pub put_two : (old one two a b : List ℕ) → one ≡ old ++ a → two ≡ one ++ b → two ≡ old ++ (a ++ b)
put_two old one two a b one_is two_is = two_is ∙ ap (λ (t : List ℕ). t ++ b) one_is ∙ append_assoc old a b

-- three
pub put_three : (old one two three a b c : List ℕ) → one ≡ old ++ a → two ≡ one ++ b → three ≡ two ++ c → three ≡ old ++ (a ++ (b ++ c))
put_three old one two three a b c one_is two_is three_is = put_two old one three a (b ++ c) one_is (put_two one two three b c two_is three_is)

-- four, behind the first
pub put_four : (one two three four five a b c d e : List ℕ) → one ≡ a → two ≡ one ++ b → three ≡ two ++ c → four ≡ three ++ d → five ≡ four ++ e
    → five ≡ a ++ (b ++ (c ++ (d ++ e)))
put_four one two three four five a b c d e one_is two_is three_is four_is five_is =
    put_three one two three five b c (d ++ e) two_is three_is (put_two three four five d e four_is five_is) ∙ ap (λ (t : List ℕ). t ++ (b ++ (c ++ (d ++ e)))) one_is

-- the parts of the end of an object, as they are put, and as they are told
pub of_end : (key segment source_key source last : List ℕ)
    → key ++ (segment ++ (source_key ++ source ++ last)) ≡ key ++ segment ++ source_key ++ source ++ last
of_end key segment source_key source last = simp append_assoc refl

-- those of a refused change's object
pub of_refused : (begin cause comma key event moment_key moment quote name_key name own result last : List ℕ)
    → (begin ++ cause ++ (comma ++ key)) ++ ((event ++ moment_key ++ moment) ++ (((quote ++ name_key) ++ name ++ quote ++ own) ++ (result ++ last)))
    ≡ begin ++ cause ++ comma ++ (key ++ event ++ moment_key ++ moment ++ quote) ++ name_key ++ name ++ quote ++ own ++ result ++ last
of_refused begin cause comma key event moment_key moment quote name_key name own result last = simp append_assoc refl
