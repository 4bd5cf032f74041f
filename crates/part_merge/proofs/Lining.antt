-- What a fetch lends of the lines of a part, and what that line is of.
use Rattle.std.proofs.Common.{◌≡◌, ◌≢◌, ◌∙◌, refl, sym, ap, subst, ℕ, suc, ◌+◌, ◌<◌, ◌≤◌, Bool, true, false, List, [], ◌∷◌, ◌++◌, length, length-append, get_or, append_assoc, arith, Option, Some, IfSome, Ok, Err}
use Rattle.std.proofs.lemmas.Bool.{ne_eqb, cond-false}
use Rattle.std.specs.List.{concat}
use Rattle.line_stream.specs.Lines.{IsFetched, IsLong, Reader, behind_line, first_line}
use Rattle.line_stream.specs.declared.fault.LinesFault.{LinesFault}
use Rattle.line_stream.specs.declared.fault.LinesFault.TheVariants as lines
use Rattle.pcap.specs.Source.{Stream}
use Rattle.part_lines.specs.Facts.{facts_of}
use Rattle.part_merge.specs.Coming.{AreTexts, ComesNext, Holds, IsLine, OpenPart, StandBehind, coming_by, coming_in, is_cut, is_over, next_coming, next_line, next_rest, stopped_by}
use Rattle.part_merge.specs.Left.{AreLeft, IsDeviceFault}
use Rattle.part_merge.specs.Merged.{Piece, capture_at, lines_in}
use Rattle.part_merge.specs.declared.fault.MergeFault.{MergeFault}
use Rattle.part_merge.specs.declared.coming.Coming.{Coming}
use Rattle.part_merge.specs.declared.coming.Coming.TheVariants as coming

-- ---- a line in front of others

first_body : (body more : List ℕ) → ((k : ℕ) → k < length body → get_or body k 0 ≢ 10) → first_line ((body ++ 10 ∷ []) ++ more) ≡ body ++ 10 ∷ []
first_body [] more one = refl
first_body (c ∷ cs) more one =
    cond-false _ _ _ (ne_eqb c 10 (one 0 (omega arith))) ∙ ap (λ l. c ∷ l) (first_body cs more (λ k lt. one (suc k) (omega arith)))

behind_body : (body more : List ℕ) → ((k : ℕ) → k < length body → get_or body k 0 ≢ 10) → behind_line ((body ++ 10 ∷ []) ++ more) ≡ more
behind_body [] more one = refl
behind_body (c ∷ cs) more one =
    cond-false _ _ _ (ne_eqb c 10 (one 0 (omega arith))) ∙ behind_body cs more (λ k lt. one (suc k) (omega arith))

at_end : (body more : List ℕ) → get_or ((body ++ 10 ∷ []) ++ more) (length body) 0 ≡ 10
at_end [] more = refl
at_end (c ∷ cs) more = at_end cs more

line_first : (line more : List ℕ) → IsLine line → first_line (line ++ more) ≡ line
line_first line more is = rw is.is (first_body is.body more is.one)

line_behind : (line more : List ℕ) → IsLine line → behind_line (line ++ more) ≡ more
line_behind line more is = rw is.is (behind_body is.body more is.one)

not_long : (line more : List ℕ) → IsLine line → IsLong (line ++ more) → ⊥
not_long line more is long =
    let size : length line ≡ length is.body + 1 = ap length is.is ∙ length-append is.body (10 ∷ []) in
    long.none (length is.body) (omega (arith, size, is.short)) (subst (λ l. get_or (l ++ more) (length is.body) 0 ≡ 10) (sym is.is) (at_end is.body more))

-- ---- the lines of a part

-- what stands in front of them, and behind it
pub first_is : (ports : ℕ) (pieces : List Piece) (cuts : List (List ℕ)) → AreTexts ports pieces cuts
    → (first_line (lines_in pieces ++ concat cuts) ≡ next_line pieces cuts) × (behind_line (lines_in pieces ++ concat cuts) ≡ next_rest pieces cuts)
first_is ports (p ∷ ps) cuts texts =
    let same = append_assoc p.line (lines_in ps) (concat cuts) in
    (ap first_line same ∙ line_first p.line (lines_in ps ++ concat cuts) texts.of_events.0.line, ap behind_line same ∙ line_behind p.line (lines_in ps ++ concat cuts) texts.of_events.0.line)
first_is ports [] (c ∷ cs) texts = (line_first c (concat cs) texts.of_cuts.0.line, line_behind c (concat cs) texts.of_cuts.0.line)
first_is ports [] [] texts = (refl, refl)

pub never_long : (ports : ℕ) (pieces : List Piece) (cuts : List (List ℕ)) → AreTexts ports pieces cuts → IsLong (lines_in pieces ++ concat cuts) → ⊥
never_long ports (p ∷ ps) cuts texts long =
    not_long p.line (lines_in ps ++ concat cuts) texts.of_events.0.line (subst IsLong (append_assoc p.line (lines_in ps) (concat cuts)) long)
never_long ports [] (c ∷ cs) texts long = not_long c (concat cs) texts.of_cuts.0.line long
never_long ports [] [] texts long = omega (arith, long.long)

-- ---- what the line is of

by_line : (part : ℕ) (was_cut : Bool) (line : List ℕ) → IsLine line → coming_in part was_cut line ≡ coming_by part was_cut (facts_of line)
by_line part was_cut [] is = absurd (omega (arith, ap length is.is, length-append is.body (10 ∷ [])))
by_line part was_cut (c ∷ cs) is = refl

pub coming_is : (part ports : ℕ) (pieces : List Piece) (cuts : List (List ℕ)) (was_cut : Bool) → AreTexts ports pieces cuts → (was_cut ≡ true → pieces ≡ []) → coming_in part was_cut (next_line pieces cuts) ≡ Ok (next_coming pieces cuts)
coming_is part ports (p ∷ ps) cuts true texts late = let none = late refl in absurd cc
coming_is part ports (p ∷ ps) cuts false texts late = by_line part false p.line texts.of_events.0.line ∙ ap (coming_by part false) texts.of_events.0.told
coming_is part ports [] (c ∷ cs) was_cut texts late = by_line part was_cut c texts.of_cuts.0.line ∙ ap (coming_by part was_cut) texts.of_cuts.0.told
coming_is part ports [] [] was_cut texts late = refl

-- ---- a fetch

-- what the reader lends where these lines stood behind the line before
pub record Fetched (pieces : List Piece) (cuts : List (List ℕ)) (line : List ℕ) (rest : Option (List ℕ)) : Type 0 where
  pub line_is : line ≡ next_line pieces cuts
  pub rest_is : rest ≡ Some (next_rest pieces cuts)

pub fetched : (ports : ℕ) (pieces : List Piece) (cuts : List (List ℕ)) (old : Option (List ℕ)) (line : List ℕ) (rest : Option (List ℕ)) → AreTexts ports pieces cuts → old ≡ Some (lines_in pieces ++ concat cuts)
    → IfSome old (λ text. (line ≡ first_line text) × (rest ≡ Some (behind_line text))) → Fetched pieces cuts line rest
fetched ports pieces cuts old line rest texts is found =
    let here = subst (λ o. IfSome o (λ text. (line ≡ first_line text) × (rest ≡ Some (behind_line text)))) is found in
    let first = first_is ports pieces cuts texts in
    record { line_is = here.0 ∙ first.0; rest_is = here.1 ∙ ap Some first.1 }

pub not_too_long : (ports : ℕ) (pieces : List Piece) (cuts : List (List ℕ)) (old : Option (List ℕ)) → AreTexts ports pieces cuts → old ≡ Some (lines_in pieces ++ concat cuts) → IfSome old IsLong → ⊥
not_too_long ports pieces cuts old texts is long = never_long ports pieces cuts texts (subst (λ o. IfSome o IsLong) is long)

-- a part's next line is of what it should be
pub not_late : (ports : ℕ) (pieces : List Piece) (cuts : List (List ℕ)) (s : OpenPart) → StandBehind ports pieces cuts s → is_cut s.coming ≡ true → pieces ≡ []
not_late ports pieces cuts s stand cut = stand.late (by s.coming refl cut)
  where
    by : (c : Coming) → s.coming ≡ c → is_cut c ≡ true → s.coming ≡ coming.Cut
    by (coming.Event n) is cut = absurd cc
    by coming.Cut is cut = is
    by coming.Nothing is cut = absurd cc

-- ---- what a part answers

pub stop_device : (part ports : ℕ) (pieces : List Piece) (cuts : List (List ℕ)) (old new : Reader) (why : LinesFault) → AreTexts ports pieces cuts → old.rest ≡ Some (lines_in pieces ++ concat cuts) → IsFetched old new (Err why)
    → IsDeviceFault (stopped_by part why)
stop_device part ports pieces cuts old new lines.Read texts is h = tt
stop_device part ports pieces cuts old new lines.TooLong texts is h = absurd (not_too_long ports pieces cuts old.rest texts is h.1)

told_coming : (part ports : ℕ) (pieces : List Piece) (cuts : List (List ℕ)) (s : OpenPart) (new : Reader) (was_cut : Bool) (line : List ℕ) (x : Unit {0}) → StandBehind ports pieces cuts s → IsFetched s.reader new (Ok x)
    → was_cut ≡ is_cut s.coming → line ≡ new.line → coming_in part was_cut line ≡ Ok (next_coming pieces cuts)
told_coming part ports pieces cuts s new was_cut line x stand is was line_is =
    let found = fetched ports pieces cuts s.reader.rest new.line new.rest stand.texts stand.rest is.1 in
    ap (coming_in part was_cut) (line_is ∙ found.line_is)
    ∙ coming_is part ports pieces cuts was_cut stand.texts (λ cut. not_late ports pieces cuts s stand (sym was ∙ cut))

pub comes_next : (part ports : ℕ) (pieces : List Piece) (cuts : List (List ℕ)) (s : OpenPart) (new : Reader) (captures : List Stream) (underlay : Stream) (was_cut : Bool) (line : List ℕ) (c : Coming) (x : Unit {0}) → StandBehind ports pieces cuts s
    → IsFetched s.reader new (Ok x) → was_cut ≡ is_cut s.coming → line ≡ new.line → Ok c ≡ coming_in part was_cut line
    → ComesNext pieces cuts (record { reader = new; ports = captures; underlay = underlay; coming = c })
comes_next part ports pieces cuts s new captures underlay was_cut line c x stand is was line_is told =
    let found = fetched ports pieces cuts s.reader.rest new.line new.rest stand.texts stand.rest is.1 in
    let both : Ok c ≡ Ok (next_coming pieces cuts) = told ∙ told_coming part ports pieces cuts s new was_cut line x stand is was line_is in
    let same : c ≡ next_coming pieces cuts = cc in
    record { coming = same; line = found.line_is; rest = found.rest_is }

pub never_wrong : (part ports : ℕ) (pieces : List Piece) (cuts : List (List ℕ)) (s : OpenPart) (new : Reader) (was_cut : Bool) (line : List ℕ) (why : MergeFault) (x : Unit {0}) → StandBehind ports pieces cuts s
    → IsFetched s.reader new (Ok x) → was_cut ≡ is_cut s.coming → line ≡ new.line → Err why ≡ coming_in part was_cut line → ⊥
never_wrong part ports pieces cuts s new was_cut line why x stand is was line_is told =
    let both : Err why ≡ Ok (next_coming pieces cuts) = told ∙ told_coming part ports pieces cuts s new was_cut line x stand is was line_is in absurd cc

-- ---- a part goes on

pub behind_event : (ports : ℕ) (p : Piece) (ps : List Piece) (cuts : List (List ℕ)) (s t : OpenPart) → Holds ports (p ∷ ps) cuts s → t.reader ≡ s.reader → t.coming ≡ s.coming → StandBehind ports ps cuts t
behind_event ports p ps cuts s t holds reader comes = record {
  texts = record { of_events = holds.texts.of_events.1; of_cuts = holds.texts.of_cuts };
  rest = ap (λ (r : Reader). r.rest) reader ∙ holds.next.rest;
  late = λ cut. let both : coming.Cut ≡ coming.Event p.number = sym cut ∙ comes ∙ holds.next.coming in absurd cc;
}

pub behind_cut : (ports : ℕ) (cut : List ℕ) (cuts : List (List ℕ)) (s : OpenPart) → Holds ports [] (cut ∷ cuts) s → StandBehind ports [] cuts s
behind_cut ports cut cuts s holds = record {
  texts = record { of_events = tt; of_cuts = holds.texts.of_cuts.1 };
  rest = holds.next.rest;
  late = λ at. refl;
}

pub holds_on : (ports : ℕ) (pieces : List Piece) (cuts : List (List ℕ)) (s new : OpenPart) → AreTexts ports pieces cuts → length cuts ≤ 256 → length s.ports ≡ ports → AreLeft (λ tap. capture_at tap pieces) s.ports s.underlay
    → new.ports ≡ s.ports → new.underlay ≡ s.underlay → ComesNext pieces cuts new → Holds ports pieces cuts new
holds_on ports pieces cuts s new texts few many left same same_underlay next = record {
  texts = texts;
  few = few;
  many = ap length same ∙ many;
  next = next;
  left = subst (λ (u : Stream). AreLeft (λ tap. capture_at tap pieces) new.ports u) (sym same_underlay) (subst (λ (l : List Stream). AreLeft (λ tap. capture_at tap pieces) l s.underlay) (sym same) left);
}

pub over_none : (c : Coming) → is_over c ≡ true → is_cut c ≡ false
over_none (coming.Event n) h = refl
over_none coming.Cut h = absurd cc
over_none coming.Nothing h = refl

pub over_cut : (c : Coming) → is_over c ≡ false → is_cut c ≡ true
over_cut (coming.Event n) h = absurd cc
over_cut coming.Cut h = refl
over_cut coming.Nothing h = absurd cc
