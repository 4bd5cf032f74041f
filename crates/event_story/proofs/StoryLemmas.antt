-- What was put, and what was asked, is what there is to tell.
use Rattle.std.proofs.Common.{◌≡◌, ◌∙◌, ap, append_assoc, append-nil, sym, ℕ, ◌≤◌, List, [], ◌++◌, Vec, Result, Ok, IfOk}
use Rattle.std.specs.declared.alloc.Global.{Global}
use Rattle.wire.specs.Frame.{Frame}
use Rattle.wire.specs.declared.ether.reason.Reason.{Reason}
use Rattle.wire.specs.declared.ether.reason.Refused.{Refused}
use Rattle.filter_db.specs.declared.place.Place.{Place}
use Rattle.endpoint_core.specs.Held.{Held, state_at}
use Rattle.endpoint_core.specs.State.{aged}
use Rattle.endpoint_core.specs.StateStep.{verdict}
use Rattle.endpoint_core.proofs.LaterLemmas.{held-later}
use Rattle.endpoint_core.specs.Arrival.{Arrival}
use Rattle.endpoint_core.specs.Step.{State, Decided, by_verdict, decided}
use Rattle.timeline.specs.declared.event.Event.{Event as Happens}
use Rattle.event_story.specs.Story.{came_facts, told}
use Rattle.event_story.specs.declared.fact.Fact.{Fact}

-- two lists of facts behind some facts, the second told otherwise
pub both-put : (facts one two a b d : List Fact) → one ≡ facts ++ a → two ≡ one ++ b → b ≡ d → two ≡ facts ++ (a ++ d)
both-put facts one two a b d first second is = second ∙ ap (λ (fs : List Fact). fs ++ b) first ∙ append_assoc facts a b ∙ ap (λ (fs : List Fact). facts ++ (a ++ fs)) is

-- and nothing behind the first
pub none-put : (facts one a : List Fact) → one ≡ facts ++ a → one ≡ facts ++ (a ++ [])
none-put facts one a first = first ∙ ap (λ (fs : List Fact). facts ++ fs) (sym (append-nil a))

-- the verdict of a frame, asked by its parts, at a moment that isn't before that of the last event
pub asked : (held kept : Held) (m t vid : ℕ) (from : Place) (f : Frame) (x : Arrival) → held ≡ kept → m ≤ t → vid ≡ x.vid → from ≡ x.from → f ≡ x.frame
    → verdict t vid from f (state_at t held) ≡ verdict t x.vid x.from x.frame (aged t (state_at m kept))
asked held kept m t vid from f x same later v p g =
    ap (λ (h : Held). verdict t vid from f (state_at t h)) same ∙ (λ i. verdict t (v i) (p i) (g i) (held-later kept m t later i))

-- what there is to tell of what came so, behind some facts
abbrev pub came_text : ℕ → Happens → State → List Fact → Result Arrival Refused → List ℕ
came_text number e s facts x =
    let d = decided e.moment (aged e.moment s.bridges) x in
    told number e (facts ++ came_facts e.moment s.bridges (aged e.moment s.bridges) x d) (Decided d)

-- the same in other words
pub came-told : (number : ℕ) (e : Happens) (s : State) (saw : Result Arrival Refused → List Fact) (facts : List Fact) (x y : Result Arrival Refused) → facts ≡ saw x → x ≡ y
    → came_text number e s facts x ≡ came_text number e s (saw y) y
came-told number e s saw facts x y put same =
    ap (λ (fs : List Fact). came_text number e s fs x) put ∙ ap (λ (z : Result Arrival Refused). came_text number e s (saw z) z) same

-- a story tells of what came, behind some facts, that the bridge of its segment has this verdict
abbrev pub TellsVerdict : {E : Type 0} → State → ℕ → Happens → List Fact → Arrival → Result (Vec ℕ Global) E → Result (List Place) Reason → Type 0
TellsVerdict {E} s number e facts x story v =
    let d = by_verdict s.bridges.settings x v in
    IfOk story (λ (text : Vec ℕ Global). text.items ≡ told number e (facts ++ came_facts e.moment s.bridges (aged e.moment s.bridges) (Ok x) d) (Decided d))
