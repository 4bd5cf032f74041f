-- Texts of others, as HTML says them: nothing of them is markup (HTML 5, 13.1.4).
use Rattle.std.specs.Prelude.{◌≡◌, ◌⊎◌, ◌||◌, not, true, ℕ, ◌==◌, ◌&&◌, nat_le, nat_lt, if◌then◌else◌, Bool, List, [], ◌∷◌, codes, flat_map}
use Rattle.std.specs.List.{list_all}

-- an octet that stands for itself: a space, or a printable character of ASCII
abbrev pub is_plain : ℕ → Bool
is_plain c = nat_le 32 c && nat_lt c 127

-- what stands for an octet that isn't shown: U+FFFD (Unicode, 23.8), in UTF-8
abbrev pub replacement : List ℕ
replacement = 239 ∷ 191 ∷ 189 ∷ []

-- an octet: what markup is made of by its entity, what is no printable character of ASCII by U+FFFD
unfoldable pub escaped_octet : ℕ → List ℕ
escaped_octet c =
    if c == 38 then codes "&amp;"
    else (if c == 60 then codes "&lt;"
    else (if c == 62 then codes "&gt;"
    else (if c == 34 then codes "&quot;"
    else (if c == 39 then codes "&#39;"
    else (if is_plain c then c ∷ [] else replacement)))))

-- a text, octet by octet
abbrev pub escaped : List ℕ → List ℕ
escaped text = flat_map escaped_octet text

-- ---- laws

-- what opens or ends markup or a value of it, but for `&`
abbrev pub is_markup : ℕ → Bool
is_markup c = c == 60 || c == 62 || c == 34 || c == 39

-- a law: nothing of it is in an escaped text
abbrev pub HasNoMarkup : Type 0
HasNoMarkup = (text : List ℕ) → list_all (λ c. not (is_markup c)) (escaped text) ≡ true

-- and `&` stands nowhere but in front of an entity, since the text of an octet has none or is one
abbrev pub is_entity : List ℕ → Type 0
is_entity text =
    (text ≡ codes "&amp;") ⊎ ((text ≡ codes "&lt;") ⊎ ((text ≡ codes "&gt;") ⊎ ((text ≡ codes "&quot;") ⊎ (text ≡ codes "&#39;"))))

abbrev pub HasNoLooseAmpersand : Type 0
HasNoLooseAmpersand = (octet : ℕ) → is_entity (escaped_octet octet) ⊎ (list_all (λ c. not (c == 38)) (escaped_octet octet) ≡ true)
