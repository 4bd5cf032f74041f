-- Lines of texts that a part left: where two texts begin with them, both have the same.
use Rattle.std.proofs.Common.{◌≡◌, ◌≢◌, ◌∙◌, sym, refl, ap, ℕ, List, [], ◌++◌, get_or, codes, Option, None, Some, IfSome, arith, append_assoc, append-nil}
use Rattle.std.specs.Prelude.{IfNone}
use Rattle.std.proofs.lemmas.List.{append_cancel_left}
use Rattle.octet_sums.specs.declared.fletcher.sum.OctetSum.{OctetSum}
use Rattle.part_record.specs.Outputs.{IsTold, sums}
use Rattle.part_record.specs.Texts.{AreTexts, text_line, text_lines}
use Rattle.part_record.specs.declared.texts.ToldTexts.{ToldTexts}
use Rattle.part_record.proofs.OutputText.{same_sums}

abbrev pub tables : List ℕ
tables = codes "text tables "

abbrev pub counts : List ℕ
counts = codes "text summary "

-- a text begins with no line of this word
abbrev pub LacksText : List ℕ → List ℕ → Type 0
LacksText word text = (s : OctetSum) (rest : List ℕ) → IsTold s → text ≢ text_line word (Some s) ++ rest

-- what stands behind a word is no such line
pub no_text : (text word told : List ℕ) → text ≡ word ++ told → ((s : OctetSum) (rest : List ℕ) → IsTold s → told ≢ sums s ++ rest) → LacksText word text
no_text text word told e none s rest is h = none s rest is (append_cancel_left word _ _ (sym e ∙ h ∙ append_assoc word (sums s) rest))

pub text_put : (start word a b c : List ℕ) (s : OctetSum) (new : List ℕ) → new ≡ start ++ word ++ sums s → new ≡ start ++ text_line word (Some s)
text_put start word a b c s new e = e ∙ append_assoc start word (sums s)

-- of two texts with one begin, one has the line and the other not
same_line : (word : List ℕ) (x y : OctetSum) (r q : List ℕ) → IsTold x → IsTold y → text_line word (Some x) ++ r ≡ text_line word (Some y) ++ q → (x ≡ y) × (r ≡ q)
same_line word x y r q f g e =
    same_sums x y r q f g (append_cancel_left word _ _ (sym (append_assoc word (sums x) r) ∙ e ∙ append_assoc word (sums y) q))

-- the fifth octet of `text tables` and of `text summary`
lacks_tables : (b : Option OctetSum) (x : OctetSum) (r : List ℕ) → text_line counts b ≢ text_line tables (Some x) ++ r
lacks_tables None x r e = cc e
lacks_tables (Some y) x r e = let wrong : 115 ≡ 116 = ap (λ (l : List ℕ). get_or l 5 0) e in omega (arith, wrong)

tables_are : (text mid : List ℕ) (a c d : Option OctetSum) → IfSome a IsTold → IfSome c IsTold → IfNone a (LacksText tables text)
    → text ≡ text_line tables a ++ mid → text ≡ text_line tables c ++ text_line counts d → (a ≡ c) × (mid ≡ text_line counts d)
tables_are text mid None None d f g none e h = (refl, sym e ∙ h)
tables_are text mid None (Some y) d f g none e h = absurd (none y (text_line counts d) g h)
tables_are text mid (Some x) None d f g none e h = absurd (lacks_tables d x mid (sym h ∙ e))
tables_are text mid (Some x) (Some y) d f g none e h =
    let both = same_line tables x y mid (text_line counts d) f g (sym e ∙ h) in
    (ap Some both.0, both.1)

counts_are : (mid rest : List ℕ) (b d : Option OctetSum) → IfSome b IsTold → IfSome d IsTold → IfNone b (LacksText counts mid)
    → mid ≡ text_line counts b ++ rest → mid ≡ text_line counts d → (b ≡ d) × (rest ≡ [])
counts_are mid rest None None f g none e h = (refl, sym e ∙ h)
counts_are mid rest None (Some y) f g none e h = absurd (none y [] g (h ∙ sym (append-nil (text_line counts (Some y)))))
counts_are mid rest (Some x) None f g none e h = absurd (let wrong : text_line counts (Some x) ++ rest ≡ [] = sym e ∙ h in cc wrong)
counts_are mid rest (Some x) (Some y) f g none e h =
    let both = same_line counts x y rest [] f g (sym e ∙ h ∙ sym (append-nil (text_line counts (Some y)))) in
    (ap Some both.0, both.1)

same_texts : (t u : ToldTexts) → t.tables ≡ u.tables → t.summary ≡ u.summary → t ≡ u
same_texts t u a b = λ i. record { tables = a i; summary = b i }

pub texts_are : (text mid rest : List ℕ) (t u : ToldTexts) → AreTexts t → AreTexts u
    → IfNone t.tables (LacksText tables text) → IfNone t.summary (LacksText counts mid)
    → text ≡ text_line tables t.tables ++ mid → mid ≡ text_line counts t.summary ++ rest → text ≡ text_lines u → (t ≡ u) × (rest ≡ [])
texts_are text mid rest t u f g no_tables no_counts e h k =
    let one = tables_are text mid t.tables u.tables u.summary f.tables g.tables no_tables e k in
    let other = counts_are mid rest t.summary u.summary f.summary g.summary no_counts h one.1 in
    (same_texts t u one.0 other.0, other.1)

-- ---- one text tells one

given_tables : (a b : Option OctetSum) → IfNone a (LacksText tables (text_line tables a ++ text_line counts b))
given_tables None b = λ s rest is e. lacks_tables b s rest e
given_tables (Some x) b = tt

given_counts : (b : Option OctetSum) → IfNone b (LacksText counts (text_line counts b))
given_counts None = λ s rest is e. cc e
given_counts (Some x) = tt

pub one_texts : (t u : ToldTexts) → AreTexts t → AreTexts u → text_lines t ≡ text_lines u → t ≡ u
one_texts t u f g e =
    (texts_are (text_lines t) (text_line counts t.summary) [] t u f g (given_tables t.tables t.summary) (given_counts t.summary) refl
    (sym (append-nil (text_line counts t.summary))) e).0
