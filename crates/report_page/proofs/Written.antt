-- What was written in parts.
use Rattle.std.proofs.Common.{◌∙◌, ap, sym, refl, subst, ℕ, List, [], ◌∷◌, ◌++◌, append_assoc, append-nil, Option, Some, None, IfSome}
use Rattle.std.specs.Fmt.{WritesInCalls, WritesText}
use Rattle.std.specs.List.{FoldsTo, concat}
use Rattle.std.specs.Io.KnownBytes.{Appends}
use Rattle.report_page.specs.Written.{AppendsThere}

appends_none : (known : Option (List ℕ)) → Appends known known []
appends_none None = tt
appends_none (Some xs) = sym (append-nil xs)

appends_more : (a b c : Option (List ℕ)) (xs ys : List ℕ) → Appends a b xs → Appends b c ys → Appends a c (xs ++ ys)
appends_more None b c xs ys first then_ = tt
appends_more (Some a) None c xs ys first then_ = absurd first
appends_more (Some a) (Some b) None xs ys first then_ = absurd then_
appends_more (Some a) (Some b) (Some c) xs ys first then_ = then_ ∙ ap (λ (l : List ℕ). l ++ ys) first ∙ append_assoc a xs ys

appends_parts : {W N : Type 0} (took : W → List ℕ → W → Type 0) (written : W → Option (List ℕ)) (name : W → N)
    (appends : (w : W) (text : List ℕ) (v : W) → took w text v → AppendsThere (written w) (written v) (name w) (name v) text)
    (w : W) (parts : List (List ℕ)) (v : W) → FoldsTo took w parts v → AppendsThere (written w) (written v) (name w) (name v) (concat parts)
appends_parts took written name appends w [] v same =
    subst (λ (x : _). AppendsThere (written w) (written x) (name w) (name x) []) same (appends_none (written w), refl)
appends_parts took written name appends w (text ∷ parts) v calls =
    let one = appends w text calls.0 calls.1 in
    let more = appends_parts took written name appends calls.0 parts v calls.2 in
    (appends_more (written w) (written calls.0) (written v) text (concat parts) one.0 more.0, more.1 ∙ one.1)

-- a writer each of whose calls appends has the whole text appended
appends_text : {W N : Type 0} (took : W → List ℕ → W → Type 0) (written : W → Option (List ℕ)) (name : W → N)
    (appends : (w : W) (text : List ℕ) (v : W) → took w text v → AppendsThere (written w) (written v) (name w) (name v) text)
    (w : W) (text : List ℕ) (v : W) → WritesInCalls took w text v → AppendsThere (written w) (written v) (name w) (name v) text
appends_text took written name appends w text v wrote =
    subst (λ (l : List ℕ). AppendsThere (written w) (written v) (name w) (name v) l) wrote.whole
    (appends_parts took written name appends w wrote.parts v wrote.calls)

-- and the text that a value shows, where it tells one
pub appends_shown : {W N : Type 0} (took : W → List ℕ → W → Type 0) (written : W → Option (List ℕ)) (name : W → N)
    (appends : (w : W) (text : List ℕ) (v : W) → took w text v → AppendsThere (written w) (written v) (name w) (name v) text)
    (w : W) (shown : Option (List ℕ)) (v : W) → WritesText took w shown v
    → IfSome shown (λ text. AppendsThere (written w) (written v) (name w) (name v) text)
appends_shown took written name appends w None v wrote = tt
appends_shown took written name appends w (Some text) v wrote = appends_text took written name appends w text v wrote
