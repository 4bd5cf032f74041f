-- An output with a line in front of it, from one step to the next.
use Rattle.std.proofs.Common.{◌≡◌, ◌∙◌, ap, sym, refl, subst, ℕ, ◌+◌, Bool, true, false, List, [], ◌++◌, length, take, Option, Some, None, append_assoc, length-append, arith}
use Rattle.std.specs.Prelude.{MatchBool}
use Rattle.std.specs.Io.KnownBytes.{Appends}
use Rattle.std.proofs.Math.Seq.{take-append-add}
use Rattle.std.proofs.lemmas.List.{append-nil, take-append-le}
use Rattle.pcap.specs.Counts.{GoesOnBy}
use Rattle.pcap.specs.Sink.{AppendsPart}
use Rattle.decision_objects.specs.Writing.{Grows, Stage, Tells, Told}

-- ---- what was written

appends_nothing : (w : Option (List ℕ)) → Appends w w []
appends_nothing None = tt
appends_nothing (Some xs) = sym (append-nil xs)

appends_more : (a b c : Option (List ℕ)) (x y : List ℕ) → Appends a b x → Appends b c y → Appends a c (x ++ y)
appends_more None b c x y first second = tt
appends_more (Some xs) None c x y first second = absurd first
appends_more (Some xs) (Some ys) None x y first second = absurd second
appends_more (Some xs) (Some ys) (Some zs) x y first second =
    second ∙ ap (λ (t : List ℕ). t ++ y) first ∙ append_assoc xs x y

-- a part of a text is one of a longer text
part_of_more : (a b : Option (List ℕ)) (x y : List ℕ) → AppendsPart a b x → AppendsPart a b (x ++ y)
part_of_more a b x y h = (
  h.0,
  omega (arith, h.1, length-append x y),
  subst (λ (t : List ℕ). Appends a b t) (sym (take-append-le h.0 x y (omega (arith, h.1)))) h.2,
)

-- a part of what comes behind a text that was written
part_behind : (a b c : Option (List ℕ)) (x y : List ℕ) → Appends a b x → AppendsPart b c y → AppendsPart a c (x ++ y)
part_behind a b c x y first h = (
  length x + h.0,
  omega (arith, h.1, length-append x y),
  subst (λ (t : List ℕ). Appends a c t) (sym (take-append-add x y h.0)) (appends_more a b c x (take h.0 y) first h.2),
)

-- ---- steps, by whether a fault came

abbrev GrowsBy : Bool → Bool → Told → Told → List ℕ → List ℕ → List ℕ → Type 0
GrowsBy before after a b line next text =
    MatchBool before (b ≡ a)
    (MatchBool after (GoesOnBy 1 a.failures b.failures × AppendsPart a.written b.written (line ++ text))
    ((b.failures ≡ a.failures) × ((gone : List ℕ) × Appends a.written b.written gone × (gone ++ next ≡ line ++ text))))

abbrev TellsBy : Bool → Bool → Told → Told → List ℕ → Type 0
TellsBy before after a b text =
    MatchBool before (b ≡ a)
    (MatchBool after (GoesOnBy 1 a.failures b.failures × AppendsPart a.written b.written text)
    ((b.failures ≡ a.failures) × Appends a.written b.written text))

true_isnt_false : true ≡ false → ⊥
true_isnt_false is = cc

more_by : (p q r : Bool) (a b c : Told) (k l m s t : List ℕ) → a.is_failed ≡ p → b.is_failed ≡ q → c.is_failed ≡ r → GrowsBy p q a b k l s → GrowsBy q r b c l m t
    → GrowsBy p r a c k m (s ++ t)
more_by true true r a b c k l m s t p_is q_is r_is first second = second ∙ first
more_by true false r a b c k l m s t p_is q_is r_is first second =
    absurd (true_isnt_false (sym p_is ∙ sym (ap (λ (x : Told). x.is_failed) first) ∙ q_is))
more_by false true true a b c k l m s t p_is q_is r_is first second =
    let part = part_of_more a.written b.written (k ++ s) t first.1 in
    let whole = subst (λ (x : List ℕ). AppendsPart a.written b.written x) (append_assoc k s t) part in
    subst (λ (x : Told). GoesOnBy 1 a.failures x.failures × AppendsPart a.written x.written (k ++ (s ++ t))) (sym second) (first.0, whole)
more_by false true false a b c k l m s t p_is q_is r_is first second =
    absurd (true_isnt_false (sym q_is ∙ sym (ap (λ (x : Told). x.is_failed) second) ∙ r_is))
more_by false false true a b c k l m s t p_is q_is r_is first second =
    let gone = first.1.0 in
    let text : gone ++ (l ++ t) ≡ k ++ (s ++ t) =
    sym (append_assoc gone l t) ∙ ap (λ (x : List ℕ). x ++ t) first.1.2 ∙ append_assoc k s t in
    let part = part_behind a.written b.written c.written gone (l ++ t) first.1.1 second.1 in (
      subst (λ (n : ℕ). GoesOnBy 1 n c.failures) first.0 second.0,
      subst (λ (x : List ℕ). AppendsPart a.written c.written x) text part,
    )
more_by false false false a b c k l m s t p_is q_is r_is first second =
    let gone = first.1.0 in
    let next = second.1.0 in
    let text : (gone ++ next) ++ m ≡ k ++ (s ++ t) =
    append_assoc gone next m ∙ ap (λ (x : List ℕ). gone ++ x) second.1.2 ∙ sym (append_assoc gone l t)
    ∙ ap (λ (x : List ℕ). x ++ t) first.1.2 ∙ append_assoc k s t in
    (second.0 ∙ first.0, (gone ++ next, appends_more a.written b.written c.written gone next first.1.1 second.1.1, text))

-- one step and another are one
pub more : (a b c : Stage) (s t : List ℕ) → Grows a b s → Grows b c t → Grows a c (s ++ t)
more a b c s t first second =
    more_by a.told.is_failed b.told.is_failed c.told.is_failed a.told b.told c.told a.line b.line c.line s t refl refl refl first second

put_by : (p : Bool) (a : Told) (k l s : List ℕ) → l ≡ k ++ s → GrowsBy p p a a k l s
put_by true a k l s is = refl
put_by false a k l s is = (refl, ([], appends_nothing a.written, is))

-- a text is put in the line
pub put : (a : Told) (k l s : List ℕ) → l ≡ k ++ s → Grows (record { told = a; line = k }) (record { told = a; line = l }) s
put a k l s is = put_by a.is_failed a k l s is

handed_by : (p q : Bool) (a b : Told) (k : List ℕ) → TellsBy p q a b k → GrowsBy p q a b k [] []
handed_by true q a b k is = is
handed_by false true a b k is = (is.0, subst (λ (x : List ℕ). AppendsPart a.written b.written x) (sym (append-nil k)) is.1)
handed_by false false a b k is = (is.0, (k, is.1, refl))

-- the line is handed on
pub handed : (a b : Told) (k : List ℕ) → Tells a b k → Grows (record { told = a; line = k }) (record { told = b; line = [] }) []
handed a b k is = handed_by a.is_failed b.is_failed a b k is

told_by : (p q : Bool) (a b : Told) (s : List ℕ) → GrowsBy p q a b [] [] s → TellsBy p q a b s
told_by true q a b s is = is
told_by false true a b s is = is
told_by false false a b s is =
    (is.0, subst (λ (x : List ℕ). Appends a.written b.written x) (sym (append-nil is.1.0) ∙ is.1.2) is.1.1)

-- from an empty line to an empty line all was told
pub told_whole : (a b c : Told) (k s : List ℕ) → Grows (record { told = a; line = [] }) (record { told = b; line = k }) s → Tells b c k → Tells a c s
told_whole a b c k s first last =
    let begun : Stage = record { told = a; line = [] } in
    let stood : Stage = record { told = b; line = k } in
    let ended : Stage = record { told = c; line = [] } in
    let all = more begun stood ended s [] first (handed b c k last) in
    told_by a.is_failed c.is_failed a c s (subst (λ (x : List ℕ). Grows begun ended x) (append-nil s) all)

-- room is made, and a text is put
pub room_and_text : (first last room opened : Stage) (line s t whole : List ℕ) → opened ≡ room → Grows first last s → Grows last room [] → line ≡ opened.line ++ t
    → whole ≡ s ++ t → Grows first (record { told = opened.told; line = line }) whole
room_and_text first last room opened line s t whole is so_far made text all =
    let here : Grows last opened [] = subst (λ (x : Stage). Grows last x []) (sym is) made in
    let ended : Stage = record { told = opened.told; line = line } in
    let grown : Grows first ended (s ++ t) = more first last ended s t so_far (more last opened ended [] t here (put opened.told opened.line line t text)) in
    subst (λ (x : List ℕ). Grows first ended x) (sym all) grown

-- a line that is an object is handed on
pub line_told : (old opened : Stage) (last : Told) (line text : List ℕ) → opened ≡ old → line ≡ text → Tells opened.told last line → Tells old.told last text
line_told old opened last line text is object told =
    subst (λ (x : Stage). Tells x.told last text) is (subst (λ (t : List ℕ). Tells opened.told last t) object told)

-- an object is written from its front to its end
pub front_to_end : (old opened mid behind : Stage) (told : Told) (front line s t : List ℕ) → opened ≡ old → behind ≡ mid
    → Grows (record { told = opened.told; line = front }) mid s → line ≡ behind.line ++ t → Tells behind.told told line → Tells old.told told ((front ++ s) ++ t)
front_to_end old opened mid behind told front line s t is next_is grows text last =
    let empty : Stage = record { told = opened.told; line = [] } in
    let begun : Stage = record { told = opened.told; line = front } in
    let ended : Stage = record { told = behind.told; line = line } in
    let outcomes : Grows begun behind s = subst (λ (x : Stage). Grows begun x s) (sym next_is) grows in
    let so_far : Grows empty behind (front ++ s) = more empty begun behind front s (put opened.told [] front front refl) outcomes in
    let all : Grows empty ended ((front ++ s) ++ t) = more empty behind ended (front ++ s) t so_far (put behind.told behind.line line t text) in
    subst (λ (x : Stage). Tells x.told told ((front ++ s) ++ t)) is (told_whole opened.told behind.told told line ((front ++ s) ++ t) all last)

-- ---- texts that are told one behind another

grown_by : (p q : Bool) (a b : Told) (s : List ℕ) → TellsBy p q a b s → GrowsBy p q a b [] [] s
grown_by true q a b s is = is
grown_by false true a b s is = is
grown_by false false a b s is = (is.0, (s, is.1, append-nil s))

grown : (a b : Told) (s : List ℕ) → Tells a b s → Grows (record { told = a; line = [] }) (record { told = b; line = [] }) s
grown a b s is = grown_by a.is_failed b.is_failed a b s is

pub tells_more : (a b c : Told) (s t : List ℕ) → Tells a b s → Tells b c t → Tells a c (s ++ t)
tells_more a b c s t first second =
    let begun : Stage = record { told = a; line = [] } in
    let stood : Stage = record { told = b; line = [] } in
    let ended : Stage = record { told = c; line = [] } in
    told_by a.is_failed c.is_failed a c (s ++ t) (more begun stood ended s t (grown a b s first) (grown b c t second))

pub tells_nothing : (a b : Told) → b ≡ a → Tells a b []
tells_nothing a b is =
    let empty : Stage = record { told = a; line = [] } in
    subst (λ (x : Told). Tells a x []) (sym is) (told_by a.is_failed a.is_failed a a [] (put a [] [] [] refl))
