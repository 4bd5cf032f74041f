-- An object of one kind is none of another, so objects one behind another are told apart, and their lines are the same.
use Rattle.std.proofs.Common.{◌≡◌, ℕ, Bool, List, [], ◌∷◌, ◌++◌, Option, Some, None, refl, sym, ap, ◌∙◌}
use Rattle.std.specs.List.{flat_map}
use Rattle.std.specs.Prelude.{codes, decimal}
use Rattle.wire.specs.declared.ether.reason.Reason.{Reason}
use Rattle.timeline.specs.declared.event.Event.{Event}
use Rattle.timeline.specs.declared.timeline.Cut.{Cut}
use Rattle.endpoint_core.specs.declared.state.fault.ChangeFault.{ChangeFault}
use Rattle.endpoint_core.specs.Decision.{Sent}
use Rattle.endpoint_core.specs.Step.{Answer, Decided, Replied}
use Rattle.endpoint_core.specs.Text.{result_by}
use Rattle.decision_lines.specs.Lines.{answer_text, line, reply_text}
use Rattle.decision_objects.specs.declared.origin.Origin.{Origin}
use Rattle.decision_objects.specs.Objects.{cut_object, drop_object, object_of, origin_of, reply_object, result_object, sent_object}
use Rattle.story_laws.specs.ReadBack.{CutsReadBack, ObjectsReadBack, OutputsReadBack, Subject, OfCut, OfEvent, line_about, object_about}
use Rattle.story_laws.proofs.Cuts.{cut_same}
use Rattle.story_laws.proofs.Events.{begin_same, done_same, drop_same, line_of, refused_same, sent_same}
use Rattle.story_laws.proofs.Forms.{done_form, drop_form, refused_form, sent_form}
use Rattle.story_laws.proofs.Numbers.{comma_number}
use Rattle.story_laws.proofs.Splits.{apart, field_same}

-- ---- the kinds

drop_or_sent : (o p : Origin) (s t : Option ℕ) (r : Reason) (b : Bool) (ps : List Sent) (x y : List ℕ)
    → drop_object o s r ++ x ≡ sent_object p t b ps ++ y → ⊥
drop_or_sent o p s t r b ps x y e = apart 3 _ _ (begin_same o p _ _ (sym (drop_form o s r x) ∙ e ∙ sent_form p t b ps y)).2 refl

drop_or_done : (o p : Origin) (s t : Option ℕ) (r : Reason) (x y : List ℕ) → drop_object o s r ++ x ≡ reply_object p t None ++ y → ⊥
drop_or_done o p s t r x y e = apart 3 _ _ (begin_same o p _ _ (sym (drop_form o s r x) ∙ e ∙ done_form p t y)).2 refl

sent_or_done : (o p : Origin) (s t : Option ℕ) (a : Bool) (os : List Sent) (x y : List ℕ)
    → sent_object o s a os ++ x ≡ reply_object p t None ++ y → ⊥
sent_or_done o p s t a os x y e =
    let first = begin_same o p _ _ (sym (sent_form o s a os x) ∙ e ∙ done_form p t y) in
    let second = field_same (codes ",\"number\":") 44 (decimal o.number) (decimal p.number) _ _
    (comma_number o.number) (comma_number p.number) first.2 in
    apart 1 _ _ second.1 refl

result_or_refused : (o p : Origin) (s t : Option ℕ) (a : Bool) (r : Option Reason) (os : List Sent) (k : ChangeFault) (x y : List ℕ)
    → result_object o s a r os ++ x ≡ reply_object p t (Some k) ++ y → ⊥
result_or_refused o p s t a (Some r) os k x y e = apart 2 _ _ (sym (drop_form o s r x) ∙ e ∙ refused_form p t k y) refl
result_or_refused o p s t a None os k x y e = apart 2 _ _ (sym (sent_form o s a os x) ∙ e ∙ refused_form p t k y) refl

done_or_refused : (o p : Origin) (s t : Option ℕ) (k : ChangeFault) (x y : List ℕ)
    → reply_object o s None ++ x ≡ reply_object p t (Some k) ++ y → ⊥
done_or_refused o p s t k x y e = apart 2 _ _ (sym (done_form o s x) ∙ e ∙ refused_form p t k y) refl

result_or_reply : (o p : Origin) (s t : Option ℕ) (a : Bool) (r : Option Reason) (os : List Sent) (k : Option ChangeFault) (x y : List ℕ)
    → result_object o s a r os ++ x ≡ reply_object p t k ++ y → ⊥
result_or_reply o p s t a r os (Some k) x y e = result_or_refused o p s t a r os k x y e
result_or_reply o p s t a (Some r) os None x y e = drop_or_done o p s t r x y e
result_or_reply o p s t a None os None x y e = sent_or_done o p s t a os x y e

-- ---- either kind of answer

result_same : (o p : Origin) (s t : Option ℕ) (a b : Bool) (r k : Option Reason) (os ps : List Sent) (x y : List ℕ)
    → result_object o s a r os ++ x ≡ result_object p t b k ps ++ y
    → (line_of o s (result_by a r os) ≡ line_of p t (result_by b k ps)) × (x ≡ y)
result_same o p s t a b (Some r) (Some k) os ps x y e = drop_same o p s t r k x y e
result_same o p s t a b (Some r) None os ps x y e = absurd (drop_or_sent o p s t r b ps x y e)
result_same o p s t a b None (Some k) os ps x y e = absurd (drop_or_sent p o t s k a os y x (sym e))
result_same o p s t a b None None os ps x y e = sent_same o p s t a b os ps x y e

reply_same : (o p : Origin) (s t : Option ℕ) (r k : Option ChangeFault) (x y : List ℕ)
    → reply_object o s r ++ x ≡ reply_object p t k ++ y → (line_of o s (reply_text r) ≡ line_of p t (reply_text k)) × (x ≡ y)
reply_same o p s t (Some r) (Some k) x y e = refused_same o p s t r k x y e
reply_same o p s t (Some r) None x y e = absurd (done_or_refused p o t s r y x (sym e))
reply_same o p s t None (Some k) x y e = absurd (done_or_refused o p s t k x y e)
reply_same o p s t None None x y e = done_same o p s t x y e

event_same : (m n : ℕ) (e f : Event) (named other : Option ℕ) (u v : Answer) (x y : List ℕ)
    → object_of m e named u ++ x ≡ object_of n f other v ++ y
    → (line m e (answer_text named u) ≡ line n f (answer_text other v)) × (x ≡ y)
event_same m n e f named other (Decided d) (Decided c) x y h =
    result_same (origin_of m e) (origin_of n f) d.segment c.segment d.two_tunnels c.two_tunnels d.dropped c.dropped d.outcomes c.outcomes
    x y h
event_same m n e f named other (Decided d) (Replied k) x y h =
    absurd (result_or_reply (origin_of m e) (origin_of n f) d.segment other d.two_tunnels d.dropped d.outcomes k x y h)
event_same m n e f named other (Replied r) (Decided c) x y h =
    absurd (result_or_reply (origin_of n f) (origin_of m e) c.segment named c.two_tunnels c.dropped c.outcomes r y x (sym h))
event_same m n e f named other (Replied r) (Replied k) x y h = reply_same (origin_of m e) (origin_of n f) named other r k x y h

-- ---- events and cut captures

result_or_cut : (o : Origin) (s : Option ℕ) (a : Bool) (r : Option Reason) (os : List Sent) (c : Cut) (x y : List ℕ)
    → result_object o s a r os ++ x ≡ cut_object c ++ y → ⊥
result_or_cut o s a (Some r) os c x y e = apart 2 _ _ (sym (drop_form o s r x) ∙ e) refl
result_or_cut o s a None os c x y e = apart 2 _ _ (sym (sent_form o s a os x) ∙ e) refl

reply_or_cut : (o : Origin) (s : Option ℕ) (r : Option ChangeFault) (c : Cut) (x y : List ℕ)
    → reply_object o s r ++ x ≡ cut_object c ++ y → ⊥
reply_or_cut o s (Some r) c x y e = apart 2 _ _ (sym (refused_form o s r x) ∙ e) refl
reply_or_cut o s None c x y e = apart 2 _ _ (sym (done_form o s x) ∙ e) refl

event_or_cut : (m : ℕ) (e : Event) (named : Option ℕ) (u : Answer) (c : Cut) (x y : List ℕ)
    → object_of m e named u ++ x ≡ cut_object c ++ y → ⊥
event_or_cut m e named (Decided d) c x y h = result_or_cut (origin_of m e) d.segment d.two_tunnels d.dropped d.outcomes c x y h
event_or_cut m e named (Replied r) c x y h = reply_or_cut (origin_of m e) named r c x y h

-- ---- whole outputs

subject_same : (a b : Subject) (x y : List ℕ) → object_about a ++ x ≡ object_about b ++ y → (line_about a ≡ line_about b) × (x ≡ y)
subject_same (OfEvent m e named u) (OfEvent n f other v) x y h = event_same m n e f named other u v x y h
subject_same (OfEvent m e named u) (OfCut c) x y h = absurd (event_or_cut m e named u c x y h)
subject_same (OfCut c) (OfEvent m e named u) x y h = absurd (event_or_cut m e named u c y x (sym h))
subject_same (OfCut c) (OfCut d) x y h = cut_same c d x y h

-- no object is empty
result_some : (o : Origin) (s : Option ℕ) (a : Bool) (r : Option Reason) (os : List Sent) (x : List ℕ)
    → [] ≡ result_object o s a r os ++ x → ⊥
result_some o s a (Some r) os x e = apart 0 _ _ (e ∙ drop_form o s r x) refl
result_some o s a None os x e = apart 0 _ _ (e ∙ sent_form o s a os x) refl

reply_some : (o : Origin) (s : Option ℕ) (r : Option ChangeFault) (x : List ℕ) → [] ≡ reply_object o s r ++ x → ⊥
reply_some o s (Some r) x e = apart 0 _ _ (e ∙ refused_form o s r x) refl
reply_some o s None x e = apart 0 _ _ (e ∙ done_form o s x) refl

subject_some : (a : Subject) (x : List ℕ) → [] ≡ object_about a ++ x → ⊥
subject_some (OfEvent m e named (Decided d)) x h = result_some (origin_of m e) d.segment d.two_tunnels d.dropped d.outcomes x h
subject_some (OfEvent m e named (Replied r)) x h = reply_some (origin_of m e) named r x h
subject_some (OfCut c) x h = apart 0 _ _ h refl

-- ---- the laws

pub objects : ObjectsReadBack
objects m n e f named other u v h = (event_same m n e f named other u v [] [] (ap (λ t. t ++ []) h)).0

pub cuts : CutsReadBack
cuts c d e = (cut_same c d [] [] (ap (λ t. t ++ []) e)).0

pub outputs : OutputsReadBack
outputs [] [] h = refl
outputs [] (b ∷ more) h = absurd (subject_some b (flat_map object_about more) h)
outputs (a ∷ rest) [] h = absurd (subject_some a (flat_map object_about rest) (sym h))
outputs (a ∷ rest) (b ∷ more) h =
    let first = subject_same a b (flat_map object_about rest) (flat_map object_about more) h in
    let behind = outputs rest more first.1 in
    λ i. first.0 i ∷ behind i
