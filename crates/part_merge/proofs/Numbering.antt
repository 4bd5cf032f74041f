-- The lines that were written so far, and more of them.
use Rattle.std.proofs.Common.{◌≡◌, ◌∙◌, refl, sym, ap, subst, ℕ, ◌+◌, ◌<◌, true, false, List, [], ◌∷◌, ◌++◌, length, slice_index_or, slice_set, append-nil, arith, Option, Some, Result, Ok, Err, inl, inr}
use Rattle.std.proofs.KnownBytes.{Appends-nil, Appends-trans}
use Rattle.std.proofs.lemmas.Bool.{cases_eq}
use Rattle.std.proofs.lemmas.List.{get_or-set_other, get_or-set_same, map-append}
use Rattle.std.proofs.lemmas.List.Folds.{concat-append}
use Rattle.std.proofs.lemmas.List.FromFn.{map-range_with_len_more}
use Rattle.std.specs.Io.KnownBytes.{Appends}
use Rattle.std.specs.List.{concat}
use Rattle.std.specs.Prelude.{OnOk}
use Rattle.timeline.proofs.KnownEvents.{all-append}
use Rattle.part_lines.specs.Facts.{facts_of}
use Rattle.part_lines.specs.declared.facts.LineFacts.{LineFacts}
use Rattle.part_lines.specs.declared.facts.LineFacts.TheVariants as told
use Rattle.part_lines.specs.declared.fault.LineFault.{LineFault}
use Rattle.part_merge.specs.Coming.{OpenPart, coming_by, coming_in, is_over}
use Rattle.part_merge.specs.Firsts.{IsNone}
use Rattle.part_merge.specs.Numbered.{AddsCuts, AddsEvents, AddsLine, AddsNumbered, IsOfCut, number_in}
use Rattle.part_merge.specs.declared.fault.MergeFault.{MergeFault}
use Rattle.part_merge.specs.declared.coming.Coming.{Coming}
use Rattle.part_merge.specs.declared.coming.Coming.TheVariants as coming

-- ---- what a line is of

by_cut : (part : ℕ) (comes : Coming) (found : Result LineFacts LineFault) → Ok comes ≡ coming_by part true found → IsNone comes
by_cut part comes (Ok (told.Event number places)) h = absurd cc
by_cut part comes (Ok told.Cut) h =
    let same : coming.Cut ≡ comes = cc in
    subst IsNone same tt
by_cut part comes (Err fault) h = absurd cc

-- no event's line stands behind that of a cut capture
pub behind_cut : (part : ℕ) (line : List ℕ) (comes : Coming) → Ok comes ≡ coming_in part true line → IsNone comes
behind_cut part [] comes h =
    let same : coming.Nothing ≡ comes = cc in
    subst IsNone same tt
behind_cut part (c ∷ cs) comes h = by_cut part comes (facts_of (c ∷ cs)) h

pub nothing_comes : (comes : Coming) → is_over comes ≡ true → IsNone comes → comes ≡ coming.Nothing
nothing_comes (coming.Event number) over none = absurd none
nothing_comes coming.Cut over none = absurd cc
nothing_comes coming.Nothing over none = refl

pub cut_comes : (comes : Coming) → is_over comes ≡ false → comes ≡ coming.Cut
cut_comes (coming.Event number) over = absurd cc
cut_comes coming.Cut over = refl
cut_comes coming.Nothing over = absurd cc

-- in the parts up to one, as they stand behind it, no line is left
pub finished : (parts : List OpenPart) (index : ℕ) (new : OpenPart) → index < length parts → ((s : OpenPart) (k : ℕ) → k < index → (slice_index_or parts k s).coming ≡ coming.Nothing) → new.coming ≡ coming.Nothing
    → (s : OpenPart) (k : ℕ) → k < index + 1 → (slice_index_or (slice_set parts index new) k s).coming ≡ coming.Nothing
finished parts index new there earlier here s k lt = elim (cases_eq k index) [
  | inl same ↦ rw (same, get_or-set_same parts index new s there) here
  | inr apart ↦ rw (get_or-set_other parts index k new s apart) (earlier s k (omega (arith, lt, apart)))
]

-- ---- what is written

text_more : (lines : List (List ℕ)) (line : List ℕ) → concat (lines ++ line ∷ []) ≡ concat lines ++ line
text_more lines line = concat-append lines (line ∷ []) ∙ ap (λ l. concat lines ++ l) (append-nil line)

pub no_events : (written : Option (List ℕ)) → AddsEvents 0 written written
no_events written = record { lines = []; numbered = refl; added = Appends-nil written }

pub one_event : (last number : ℕ) (written now next : Option (List ℕ)) → AddsEvents last written now → number ≡ last + 1 → AddsLine (coming.Event number) now next → AddsEvents number written next
one_event last number written now next so_far on line = subst (λ n. AddsEvents n written next) (sym on) (record {
  lines = so_far.lines ++ line.line ∷ [];
  numbered = map-append number_in so_far.lines (line.line ∷ []) ∙ (λ i. so_far.numbered i ++ its i ∷ []) ∙ sym (map-range_with_len_more Some 1 last (last + 1) (omega arith));
  added = subst (Appends written next) (sym (text_more so_far.lines line.line)) (Appends-trans written now next (concat so_far.lines) line.line so_far.added line.added);
})
  where
    its : number_in line.line ≡ Some (last + 1)
    its = line.is ∙ ap Some on

pub none_cut : (written : Option (List ℕ)) → AddsCuts written written
none_cut written = record { lines = []; are = tt; added = Appends-nil written }

pub more_cut : (written now next : Option (List ℕ)) → AddsCuts written now → AddsCuts now next → AddsCuts written next
more_cut written now next so_far more = record {
  lines = so_far.lines ++ more.lines;
  are = all-append IsOfCut so_far.lines more.lines so_far.are more.are;
  added = subst (Appends written next) (sym (concat-append so_far.lines more.lines)) (Appends-trans written now next (concat so_far.lines) (concat more.lines) so_far.added more.added);
}

pub one_cut : (written now next : Option (List ℕ)) → AddsCuts written now → AddsLine coming.Cut now next → AddsCuts written next
one_cut written now next so_far line = more_cut written now next so_far (record {
  lines = line.line ∷ [];
  are = (line.is, tt);
  added = subst (Appends now next) (sym (append-nil line.line)) line.added;
})

pub all_lines : (last : ℕ) (written now next : Option (List ℕ)) → AddsEvents last written now → AddsCuts now next → AddsNumbered written next
all_lines last written now next events cuts = record {
  count = last;
  events = events.lines;
  cuts = cuts.lines;
  numbered = events.numbered;
  are = cuts.are;
  added = Appends-trans written now next (concat events.lines) (concat cuts.lines) events.added cuts.added;
}

-- ---- an answer

module _ {T : Type 0} where
  pub always : (P : Type 0) (result : Result T MergeFault) → P → OnOk result P
  always P (Ok x) p = p
  always P (Err fault) p = tt
