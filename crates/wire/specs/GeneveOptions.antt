-- Options of a Geneve header (RFC 8926, 3.5).
use Rattle.std.specs.Prelude.{◌≡◌, ◌<◌, ℕ, zero, suc, ◌^◌, ◌+◌, ◌*◌, ◌%◌, ◌==◌, ◌&&◌, ◌||◌, nat_lt, nat_le, Bool}
use Rattle.std.specs.Prelude.{not, if◌then◌else◌, List, [], ◌∷◌, ◌++◌, length, drop, Option, Some, None, unwrap_or}
use Rattle.std.specs.List.{list_any, list_all}
use Rattle.wire.specs.Octets.{octet, field, octets, part}

-- an option: its class, its whole type octet, and its data
pub record TunnelOption : Type 0 where
  pub class : ℕ
  pub kind : ℕ
  pub body : List ℕ

-- a text is that of an option: its class in two octets, its type, an octet whose low five bits are a quarter of the
-- length of its data, and its data. The high three bits of that octet are reserved, and free
pub record IsOptionText (option : TunnelOption) (text : List ℕ) : Type 0 where
  pub length_octet : ℕ
  pub fits : (option.class < 2 ^ 16) × (option.kind < 256) × (length_octet < 256)
  pub quarter : length option.body ≡ 4 * (length_octet % 32)
  pub whole : text ≡ octets 2 option.class ++ option.kind ∷ length_octet ∷ option.body

-- a text is those of these options, side by side
abbrev pub AreOptionTexts : List TunnelOption → List ℕ → Type 0
AreOptionTexts [] text = text ≡ []
AreOptionTexts (option ∷ options) text =
    (front : List ℕ) × (rest : List ℕ) × IsOptionText option front × AreOptionTexts options rest × (text ≡ front ++ rest)

-- ---- which options are taken

-- the high bit of the type: a packet with such an option is dropped where the option isn't known
abbrev pub is_critical : ℕ → Bool
is_critical kind = nat_le 128 kind

-- an option is on a list of known ones, by its class and its whole type octet
abbrev pub holds : List (ℕ × ℕ) → ℕ → ℕ → Bool
holds known class kind = list_any (λ pair. pair.0 == class && pair.1 == kind) known

-- an option isn't critical, or is known
abbrev pub accepts : List (ℕ × ℕ) → ℕ → ℕ → Bool
accepts known class kind = not (is_critical kind) || holds known class kind

-- each critical option is known
abbrev pub allowed : List (ℕ × ℕ) → List TunnelOption → Bool
allowed known options = list_all (λ option. accepts known option.class option.kind) options

-- ---- the options that a text is read as; they are those whose texts it is, by a law of this crate

-- the octets of the option that a text begins with
abbrev pub option_length : List ℕ → ℕ
option_length text = 4 + 4 * (octet 3 text % 32)

-- the option that a text begins with
abbrev pub option_at : List ℕ → TunnelOption
option_at text = record { class = field 0 2 text; kind = octet 2 text; body = part 4 (4 * (octet 3 text % 32)) text }

-- the option that a text begins with and what stands behind it, where all of the option is there
abbrev pub split_option : List ℕ → Option (TunnelOption × List ℕ)
split_option text =
    if nat_lt (length text) (option_length text)
    then None
    else Some (option_at text, drop (option_length text) text)

-- an option in front of others
abbrev pub with_option : TunnelOption → Option (List TunnelOption) → Option (List TunnelOption)
with_option option None = None
with_option option (Some options) = Some (option ∷ options)

-- the options that a text is, one behind the other to its end, if they are at most n
abbrev pub options_at : ℕ → List ℕ → Option (List TunnelOption)
options_at n [] = Some []
options_at zero (x ∷ text) = None
options_at (suc n) (x ∷ text) =
    let left = x ∷ text in
    if nat_lt (length left) (option_length left)
    then None
    else with_option (option_at left) (options_at n (drop (option_length left) left))

-- the options that a text is; each has octets, so they are no more than these
abbrev pub options_in : List ℕ → Option (List TunnelOption)
options_in text = options_at (length text) text

-- the same as a list: none where the text isn't the texts of options
abbrev pub option_list : List ℕ → List TunnelOption
option_list text = unwrap_or (options_in text) []
