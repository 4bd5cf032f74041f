-- A table of reasons and the facts that its tests decide: the first test that holds is the first fact.
use Rattle.std.proofs.Common.{◌≡◌, ◌⊎◌, ℕ, Bool, true, false, not, ltb, List, [], ◌∷◌, ◌++◌, length, Option, Some, None, Err, refl, sym, ap, ◌∙◌, subst, inl, inr, Ok}
use Rattle.std.specs.List.{AllByRecursion}
use Rattle.std.specs.Prelude.{is_some, is_none}
use Rattle.std.proofs.lemmas.Bool.{ltb-true, lt-ltb, eqb-true, eq-eqb, cases_Bool, and_parts, and_from, not-true, not_from_false, false_from_ne_true, false≢true}
use Rattle.std.proofs.lemmas.Option.{same_Some}
use Rattle.wire.specs.First.{first, unless}
use Rattle.wire.proofs.FirstLemmas.{first-skip, first-here}
use Rattle.wire.specs.declared.ether.reason.Reason.{Reason}
use Rattle.wire.specs.declared.ether.reason.Refused.{Refused}
use Rattle.overlay.specs.Frame.{has_tag}
use Rattle.overlay.specs.declared.ports.member.Egress.{Egress}
use Rattle.overlay.specs.Ports.{Ports, Members, port_at, is_up, egress_at, members_at}
use Rattle.overlay.specs.Ingress.{Holds, IsRefused, enters, reasons, local_reasons, refused_in, accepts, tag_vid, vid_at, frame_in}

-- a test is true exactly where the reason holds, and the refusal is that of the reason
record Decides (s : Ports) (port : ℕ) (b : List ℕ) (row : Refused × Bool) (reason : Reason) : Type 0 where
  refused : row.0 ≡ record { segment = refused_in (vid_at s port b) reason; reason = reason }
  holds : row.1 ≡ true → Holds s port b reason
  tests : Holds s port b reason → row.1 ≡ true

-- a table decides a list of reasons, row by row
abbrev DecidesAll : Ports → ℕ → List ℕ → List (Refused × Bool) → List Reason → Type 0
DecidesAll s port b [] [] = Unit {0}
DecidesAll s port b (row ∷ rows) (reason ∷ others) = Decides s port b row reason × DecidesAll s port b rows others
DecidesAll s port b [] (reason ∷ others) = ⊥
DecidesAll s port b (row ∷ rows) [] = ⊥

abbrev NoneOf : Ports → ℕ → List ℕ → List Reason → Type 0
NoneOf s port b reasons = AllByRecursion (λ reason. Holds s port b reason → ⊥) reasons

record FirstOf (s : Ports) (port : ℕ) (b : List ℕ) (all : List Reason) (refused : Refused) : Type 0 where
  before : List Reason
  behind : List Reason
  in_order : all ≡ before ++ refused.reason ∷ behind
  none_before : NoneOf s port b before
  holds : Holds s port b refused.reason
  segment_is : refused.segment ≡ refused_in (vid_at s port b) refused.reason

first-from : (s : Ports) (port : ℕ) (b : List ℕ) (rows : List (Refused × Bool)) (all : List Reason) (refused : Refused) → DecidesAll s port b rows all → first rows ≡ Some refused → FirstOf s port b all refused
first-from s port b [] all refused d h = absurd (cc)
first-from s port b (row ∷ rows) [] refused d h = absurd d
first-from s port b (row ∷ rows) (reason ∷ others) refused d h =
    here (first-from s port b rows others refused d.1) (cases_Bool row.1)
  where
    told : row.1 ≡ true → row.0 ≡ refused
    told t = same_Some row.0 refused (sym (first-here row.0 row.1 rows t) ∙ h)

    here : (first rows ≡ Some refused → FirstOf s port b others refused) → (row.1 ≡ true) ⊎ (row.1 ≡ false) → FirstOf s port b (reason ∷ others) refused
    here later (inl t) =
        let is : refused ≡ record { segment = refused_in (vid_at s port b) reason; reason = reason } = sym (told t) ∙ d.0.refused in
        let same = ap (λ (r : Refused). r.reason) is in
        record {
          before = [];
          behind = others;
          in_order = ap (λ (r : Reason). r ∷ others) (sym same);
          none_before = tt;
          holds = subst (Holds s port b) (sym same) (d.0.holds t);
          segment_is = ap (λ (r : Refused). r.segment) is ∙ ap (refused_in (vid_at s port b)) (sym same);
        }
    here later (inr t) =
        let rest = later (sym (first-skip row.0 row.1 rows t) ∙ h) in
        record {
          before = reason ∷ rest.before;
          behind = rest.behind;
          in_order = ap (λ (rs : List Reason). reason ∷ rs) rest.in_order;
          none_before = (λ k. false≢true (sym t ∙ d.0.tests k), rest.none_before);
          holds = rest.holds;
          segment_is = rest.segment_is;
        }

first-of : (s : Ports) (port : ℕ) (b : List ℕ) (rows : List (Refused × Bool)) (all before behind : List Reason) (refused : Refused) → DecidesAll s port b rows all → all ≡ before ++ refused.reason ∷ behind → NoneOf s port b before → Holds s port b refused.reason → refused.segment ≡ refused_in (vid_at s port b) refused.reason → first rows ≡ Some refused
first-of s port b [] [] [] behind refused d is none_before holds segment_is = absurd (cc)
first-of s port b [] [] (other ∷ before) behind refused d is none_before holds segment_is = absurd (cc)
first-of s port b [] (reason ∷ others) before behind refused d is none_before holds segment_is = absurd d
first-of s port b (row ∷ rows) [] before behind refused d is none_before holds segment_is = absurd d
first-of s port b (row ∷ rows) (reason ∷ others) [] behind refused d is none_before holds segment_is =
    let same : reason ≡ refused.reason = cc in
    let told : row.0 ≡ refused = d.0.refused ∙ (λ i. record { segment = (ap (refused_in (vid_at s port b)) same ∙ sym segment_is) i; reason = same i }) in
    first-here row.0 row.1 rows (d.0.tests (subst (Holds s port b) (sym same) holds)) ∙ ap Some told
first-of s port b (row ∷ rows) (reason ∷ others) (other ∷ before) behind refused d is none_before holds segment_is =
    let same : reason ≡ other = cc in
    let rest : others ≡ before ++ refused.reason ∷ behind = cc in
    let fails : row.1 ≡ false = false_from_ne_true row.1 (λ t. none_before.0 (subst (Holds s port b) same (d.0.holds t))) in
    first-skip row.0 row.1 rows fails ∙ first-of s port b rows others before behind refused d.1 rest none_before.1 holds segment_is

-- ---- the table of `reasons`

none_there : {X : Type 0} (o : Option X) → not (is_some o) ≡ true → o ≡ None
none_there (Some x) h = absurd (cc)
none_there None h = refl

none-decided : {X : Type 0} (o : Option X) → is_none o ≡ true → o ≡ None
none-decided (Some x) h = absurd (cc)
none-decided None h = refl

decides : (s : Ports) (port : ℕ) (b : List ℕ) → DecidesAll s port b (reasons s port b) local_reasons
decides s port b =
    let vid = vid_at s port b in
    let takes = accepts (port_at s port).accept (tag_vid b) in (
      record { refused = refl; holds = λ t. ltb-true (length b) 14 t; tests = λ k. lt-ltb (length b) 14 k },
      (
        record { refused = refl; holds = λ t. not-true (is_up s port) t; tests = λ k. not_from_false (is_up s port) k },
        (
          record { refused = refl; holds = λ t. t; tests = λ k. k },
          (
            record { refused = refl; holds = λ t. t; tests = λ k. k },
            (
              record {
                refused = refl;
                holds = λ t. let both = and_parts (has_tag b) (ltb (length b) 18) t in (both.0, ltb-true (length b) 18 both.1);
                tests = λ k. and_from (has_tag b) (ltb (length b) 18) k.0 (lt-ltb (length b) 18 k.1);
              },
              (
                record { refused = refl; holds = λ t. eqb-true (tag_vid b) 4095 t; tests = λ k. eq-eqb (tag_vid b) 4095 k },
                (
                  record { refused = refl; holds = λ t. not-true takes t; tests = λ k. not_from_false takes k },
                  (
                    record { refused = refl; holds = λ t. none_there (members_at s vid) t; tests = λ k. ap (λ (o : Option Members). not (is_some o)) k },
                    (
                      record { refused = refl; holds = λ t. none-decided (egress_at s vid port) t; tests = λ k. ap (λ (o : Option Egress). is_none o) k },
                      tt,
                    ),
                  ),
                ),
              ),
            ),
          ),
        ),
      ),
    )

refused-first : {A : Type 0} (o : Option Refused) (x : A) (refused : Refused) → unless o (Ok x) ≡ Err refused → o ≡ Some refused
refused-first (Some r) x refused h = cc
refused-first None x refused h = absurd (cc)

pub refused-from : (s : Ports) (port : ℕ) (b : List ℕ) (refused : Refused) → enters s port b ≡ Err refused → IsRefused s port b refused
refused-from s port b refused answer =
    let told = refused-first (first (reasons s port b)) (vid_at s port b, frame_in b) refused answer in
    let found = first-from s port b (reasons s port b) local_reasons refused (decides s port b) told in
    record {
      before = found.before;
      behind = found.behind;
      in_order = found.in_order;
      none_before = found.none_before;
      holds = found.holds;
      segment_is = found.segment_is;
    }

pub refused-of : (s : Ports) (port : ℕ) (b : List ℕ) (refused : Refused) → IsRefused s port b refused → enters s port b ≡ Err refused
refused-of s port b refused k =
    ap (λ (o : Option Refused). unless o (Ok (vid_at s port b, frame_in b))) (first-of s port b (reasons s port b) local_reasons k.before k.behind refused (decides s port b) k.in_order k.none_before k.holds k.segment_is)
