-- Two events of one kind with the same object in front of a text have the same line, and the same text stands behind.
use Rattle.std.proofs.Common.{◌≡◌, ℕ, Bool, true, List, [], ◌∷◌, ◌++◌, Option, Some, None, refl, sym, ap, ◌∙◌, arith}
use Rattle.std.proofs.lemmas.Bool.{false≢true}
use Rattle.std.proofs.lemmas.List.{append_cancel_left}
use Rattle.std.specs.Prelude.{codes, decimal}
use Rattle.wire.specs.Reason.{name_of, number_of}
use Rattle.wire.specs.declared.ether.reason.Reason.{Reason}
use Rattle.timeline.specs.Words.{source_word}
use Rattle.endpoint_core.specs.declared.state.fault.ChangeFault.{ChangeFault}
use Rattle.endpoint_core.specs.Fault as change
use Rattle.endpoint_core.specs.Decision.{Sent}
use Rattle.endpoint_core.specs.Text.{result_by}
use Rattle.decision_lines.specs.Lines as lines
use Rattle.decision_lines.specs.Lines.{front_text, reply_text}
use Rattle.line_words.proofs.Decimals.{lacks}
use Rattle.decision_objects.specs.declared.origin.Origin.{Origin}
use Rattle.decision_objects.specs.Objects.{drop_object, reply_object, segment_text, sent_object}
use Rattle.story_laws.proofs.Forms.{done_form, drop_form, ending, front, refused_form, sent_form}
use Rattle.story_laws.proofs.Names.{quote_fault, quote_reason}
use Rattle.story_laws.proofs.Numbers.{comma_number, number_lacks, quote_number, quote_source}
use Rattle.story_laws.proofs.Outcomes.{outcomes_same}
use Rattle.story_laws.proofs.Splits.{field_same, pair_same}

-- ---- segments

comma_segment : (segment : Option ℕ) → lacks 44 (segment_text segment) ≡ true
comma_segment (Some vid) = comma_number vid
comma_segment None = refl

-- a number has no letters
no_null : (n : ℕ) → decimal n ≡ codes "null" → ⊥
no_null n e = absurd (false≢true (ap (lacks 110) (sym e) ∙ number_lacks 110 n (λ d low k. omega (arith, k))))

segment_same : (s t : Option ℕ) → segment_text s ≡ segment_text t → lines.segment_text s ≡ lines.segment_text t
segment_same (Some m) (Some n) e = e
segment_same (Some m) None e = absurd (no_null m e)
segment_same None (Some n) e = absurd (no_null n (sym e))
segment_same None None e = refl

-- ---- what all objects have

-- a line with a result
abbrev pub line_of : Origin → Option ℕ → List ℕ → List ℕ
line_of o segment result =
    front_text o.event o.moment o.source o.number ++ (lines.segment_text segment ++ codes " " ++ result ++ 10 ∷ [])

pub begin_same : (o p : Origin) (x y : List ℕ)
    → front (decimal o.event) (decimal o.moment) x ≡ front (decimal p.event) (decimal p.moment) y
    → (decimal o.event ≡ decimal p.event) × (decimal o.moment ≡ decimal p.moment) × (x ≡ y)
begin_same o p x y e =
    pair_same (codes "{\"event\":") (codes "\"moment\":\"") 44 34
    (decimal o.event) (decimal o.moment) (decimal p.event) (decimal p.moment) x y
    (comma_number o.event, quote_number o.moment) (comma_number p.event, quote_number p.moment) e

-- two events whose other words and results are the same, and whose objects end in the same way
end_same : (o p : Origin) (s t : Option ℕ) (a b x y : List ℕ) → decimal o.event ≡ decimal p.event → decimal o.moment ≡ decimal p.moment
    → decimal o.number ≡ decimal p.number → a ≡ b
    → ending (segment_text s) (source_word o.source) x ≡ ending (segment_text t) (source_word p.source) y
    → (line_of o s a ≡ line_of p t b) × (x ≡ y)
end_same o p s t a b x y event moment number result e =
    let same = pair_same (codes ",\"segment\":") (codes "\"source\":\"") 44 34
    (segment_text s) (source_word o.source) (segment_text t) (source_word p.source) _ _
    (comma_segment s, quote_source o.source) (comma_segment t, quote_source p.source) e in
    let segment = segment_same s t same.0 in (
      λ i. event i ++ codes " " ++ moment i ++ codes " " ++ same.1 i ++ codes " " ++ number i ++ codes " "
          ++ (segment i ++ codes " " ++ result i ++ 10 ∷ []),
      append_cancel_left (codes "}\n") x y same.2,
    )

-- ---- drops

-- the number of a reason and its name
abbrev drop_text : Reason → List ℕ
drop_text reason = codes "drop " ++ decimal (number_of reason) ++ codes " " ++ name_of reason

pub drop_same : (o p : Origin) (s t : Option ℕ) (r k : Reason) (x y : List ℕ) → drop_object o s r ++ x ≡ drop_object p t k ++ y
    → (line_of o s (drop_text r) ≡ line_of p t (drop_text k)) × (x ≡ y)
drop_same o p s t r k x y e =
    let first = begin_same o p _ _ (sym (drop_form o s r x) ∙ e ∙ drop_form p t k y) in
    let second = pair_same (codes ",\"name\":\"") (codes ",\"number\":") 34 44
    (name_of r) (decimal o.number) (name_of k) (decimal p.number) _ _
    (quote_reason r, comma_number o.number) (quote_reason k, comma_number p.number) first.2 in
    let third = field_same (codes "\"reason\":") 44 (decimal (number_of r)) (decimal (number_of k)) _ _
    (comma_number (number_of r)) (comma_number (number_of k)) second.2 in
    end_same o p s t _ _ x y first.0 first.1 second.1 (λ i. codes "drop " ++ third.0 i ++ codes " " ++ second.0 i)
    (append_cancel_left (codes "\"result\":\"drop\"") _ _ third.1)

-- ---- what is sent

pub sent_same : (o p : Origin) (s t : Option ℕ) (a b : Bool) (os ps : List Sent) (x y : List ℕ)
    → sent_object o s a os ++ x ≡ sent_object p t b ps ++ y
    → (line_of o s (result_by a None os) ≡ line_of p t (result_by b None ps)) × (x ≡ y)
sent_same o p s t a b os ps x y e =
    let first = begin_same o p _ _ (sym (sent_form o s a os x) ∙ e ∙ sent_form p t b ps y) in
    let second = field_same (codes ",\"number\":") 44 (decimal o.number) (decimal p.number) _ _
    (comma_number o.number) (comma_number p.number) first.2 in
    let third = outcomes_same a b os ps _ _ (append_cancel_left (codes "\"outcomes\":[") _ _ second.1) in
    end_same o p s t _ _ x y first.0 first.1 second.0 third.0
    (append_cancel_left (codes ",\"result\":\"sent\"") _ _ third.1)

-- ---- replies

pub done_same : (o p : Origin) (s t : Option ℕ) (x y : List ℕ) → reply_object o s None ++ x ≡ reply_object p t None ++ y
    → (line_of o s (reply_text None) ≡ line_of p t (reply_text None)) × (x ≡ y)
done_same o p s t x y e =
    let first = begin_same o p _ _ (sym (done_form o s x) ∙ e ∙ done_form p t y) in
    let second = field_same (codes ",\"number\":") 44 (decimal o.number) (decimal p.number) _ _
    (comma_number o.number) (comma_number p.number) first.2 in
    end_same o p s t _ _ x y first.0 first.1 second.0 refl
    (append_cancel_left (codes "\"result\":\"done\"") _ _ second.1)

pub refused_same : (o p : Origin) (s t : Option ℕ) (r k : ChangeFault) (x y : List ℕ)
    → reply_object o s (Some r) ++ x ≡ reply_object p t (Some k) ++ y
    → (line_of o s (reply_text (Some r)) ≡ line_of p t (reply_text (Some k))) × (x ≡ y)
refused_same o p s t r k x y e =
    let first = pair_same (codes "{\"cause\":") (codes "\"event\":") 44 44
    (decimal (change.number_of r)) (decimal o.event) (decimal (change.number_of k)) (decimal p.event) _ _
    (comma_number (change.number_of r), comma_number o.event) (comma_number (change.number_of k), comma_number p.event)
    (sym (refused_form o s r x) ∙ e ∙ refused_form p t k y) in
    let second = pair_same (codes "\"moment\":\"") (codes ",\"name\":\"") 34 34
    (decimal o.moment) (change.name_of r) (decimal p.moment) (change.name_of k) _ _
    (quote_number o.moment, quote_fault r) (quote_number p.moment, quote_fault k) first.2 in
    let third = field_same (codes ",\"number\":") 44 (decimal o.number) (decimal p.number) _ _
    (comma_number o.number) (comma_number p.number) second.2 in
    end_same o p s t _ _ x y first.1 second.0 third.0 (λ i. codes "refused " ++ first.0 i ++ codes " " ++ second.1 i)
    (append_cancel_left (codes "\"result\":\"refused\"") _ _ third.1)
