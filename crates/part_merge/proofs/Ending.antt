-- The lines of the cut captures of a part, one after another.
use Rattle.std.proofs.Common.{◌≡◌, ◌∙◌, refl, sym, ap, subst, ℕ, ◌+◌, ◌≤◌, true, false, List, [], ◌∷◌, ◌++◌, length, length-append, append_assoc, append-nil, arith, Option}
use Rattle.std.proofs.KnownBytes.{Appends-nil, Appends-trans}
use Rattle.std.specs.Io.KnownBytes.{Appends}
use Rattle.std.specs.List.{concat}
use Rattle.part_merge.specs.Coming.{ComesNext, Holds, OpenPart, StandBehind, is_cut}
use Rattle.part_merge.proofs.Lining.{behind_cut, holds_on}

pub concat_both : (a b : List (List ℕ)) → concat (a ++ b) ≡ concat a ++ concat b
concat_both [] b = refl
concat_both (x ∷ a) b = ap (λ l. x ++ l) (concat_both a b) ∙ sym (append_assoc x (concat a) (concat b))

-- so many of these lines were put, and the others are left
pub record CutsSoFar (ports : ℕ) (cuts : List (List ℕ)) (count : ℕ) (s : OpenPart) (written now : Option (List ℕ)) : Type 0 where
  pub done : List (List ℕ)
  pub others : List (List ℕ)
  pub whole : cuts ≡ done ++ others
  pub many : length done ≡ count
  pub holds : Holds ports [] others s
  pub added : Appends written now (concat done)

pub none_put : (ports : ℕ) (cuts : List (List ℕ)) (s : OpenPart) (written : Option (List ℕ)) → Holds ports [] cuts s → CutsSoFar ports cuts 0 s written written
none_put ports cuts s written holds = record { done = []; others = cuts; whole = refl; many = refl; holds = holds; added = Appends-nil written }

-- where the next line is of a cut capture, one is left
pub record AnotherCut (ports : ℕ) (others : List (List ℕ)) (s : OpenPart) : Type 0 where
  pub cut : List ℕ
  pub behind : List (List ℕ)
  pub is : others ≡ cut ∷ behind
  pub stand : StandBehind ports [] behind s
  pub line : s.reader.line ≡ cut

pub another : (ports : ℕ) (others : List (List ℕ)) (s : OpenPart) → Holds ports [] others s → is_cut s.coming ≡ true → AnotherCut ports others s
another ports [] s holds cut = let both = sym cut ∙ ap is_cut holds.next.coming in absurd cc
another ports (c ∷ cs) s holds cut = record { cut = c; behind = cs; is = refl; stand = behind_cut ports c cs s holds; line = holds.next.line }

-- else none is
pub no_more : (ports : ℕ) (others : List (List ℕ)) (s : OpenPart) → Holds ports [] others s → is_cut s.coming ≡ false → others ≡ []
no_more ports [] s holds cut = refl
no_more ports (c ∷ cs) s holds cut = let both = sym cut ∙ ap is_cut holds.next.coming in absurd cc

pub one_put : (ports : ℕ) (cuts : List (List ℕ)) (count : ℕ) (s new : OpenPart) (written now next : Option (List ℕ)) → (so_far : CutsSoFar ports cuts count s written now) → (more : AnotherCut ports so_far.others s)
    → new.ports ≡ s.ports → new.underlay ≡ s.underlay → ComesNext [] more.behind new → Appends now next s.reader.line → CutsSoFar ports cuts (count + 1) new written next
one_put ports cuts count s new written now next so_far more same same_underlay comes added = record {
  done = so_far.done ++ more.cut ∷ [];
  others = more.behind;
  whole = so_far.whole ∙ ap (λ l. so_far.done ++ l) more.is ∙ sym (append_assoc so_far.done (more.cut ∷ []) more.behind);
  many = length-append so_far.done (more.cut ∷ []) ∙ omega (arith, so_far.many);
  holds = holds_on ports [] more.behind s new more.stand.texts few so_far.holds.many so_far.holds.left same same_underlay comes;
  added = subst (Appends written next) (sym (concat_both so_far.done (more.cut ∷ []) ∙ ap (λ l. concat so_far.done ++ l) (append-nil more.cut)))
      (Appends-trans written now next (concat so_far.done) more.cut so_far.added (subst (Appends now next) more.line added));
}
  where
    few : length more.behind ≤ 256
    few = omega (arith, so_far.holds.few, ap length more.is)

pub all_put : (ports : ℕ) (cuts : List (List ℕ)) (count : ℕ) (s : OpenPart) (written now : Option (List ℕ)) → CutsSoFar ports cuts count s written now → is_cut s.coming ≡ false → Holds ports [] [] s × Appends written now (concat cuts)
all_put ports cuts count s written now so_far none =
    let nothing = no_more ports so_far.others s so_far.holds none in
    let whole : so_far.done ≡ cuts = sym (so_far.whole ∙ ap (λ l. so_far.done ++ l) nothing ∙ append-nil so_far.done) in
    (subst (λ l. Holds ports [] l s) nothing so_far.holds, subst (λ l. Appends written now (concat l)) whole so_far.added)

pub never_too_many : (ports : ℕ) (cuts : List (List ℕ)) (count : ℕ) (s : OpenPart) (written now : Option (List ℕ)) → CutsSoFar ports cuts count s written now → length cuts ≤ 256 → count ≡ 257 → ⊥
never_too_many ports cuts count s written now so_far few is = omega (arith, ap length so_far.whole, length-append so_far.done so_far.others, so_far.many, few, is)
