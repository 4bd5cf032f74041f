-- What an endpoint answers fits into a line and into records, whatever comes.
use Rattle.std.proofs.Common.{◌≡◌, ◌≢◌, ◌∙◌, refl, sym, ap, subst, ℕ, suc, ◌≤◌, arith, List, [], ◌∷◌, length, map, Option, Some, None, Result, Ok, Err, IfOk}
use Rattle.std.specs.List.{AllByRecursion}
use Rattle.wire.specs.Octets.{IsText}
use Rattle.wire.specs.Frame.{Frame}
use Rattle.wire.specs.declared.ether.reason.Reason.{Reason}
use Rattle.wire.specs.declared.ether.reason.Refused.{Refused}
use Rattle.filter_db.specs.Table.{Table}
use Rattle.filter_db.specs.declared.place.Place.{Place}
use Rattle.overlay.specs.Ports.{Ports}
use Rattle.overlay.specs.declared.ports.port.PortRule.{PortRule}
use Rattle.overlay.specs.declared.underlay.settings.Underlay.{Underlay}
use Rattle.encapsulate.specs.Sender.{IsUnderlay}
use Rattle.endpoint_core.specs.Settings.{SegmentSettings, Settings, segment_at}
use Rattle.endpoint_core.specs.State.{State as Bridges, aged}
use Rattle.endpoint_core.specs.StateStep.{after_frame, config_of, verdict, verdict_in}
use Rattle.endpoint_core.specs.Arrival.{came_at, came_by}
use Rattle.endpoint_core.specs.Arrival.{Arrival}
use Rattle.endpoint_core.specs.Decision.{Decision, Sent}
use Rattle.endpoint_core.specs.Event.{Asks, Event, FrameAt, Input, Packet}
use Rattle.endpoint_core.specs.Step.{Answer, Decided, Replied, State, after, answer, answer_by, bridges_after, by_verdict, decided, sent_at}
use Rattle.part_files.proofs.Arriving.{IsCome, came_at-come, came_by-come}
use Rattle.part_files.proofs.Emitting.{Fits, IsShortFrame, emitted-short}
use Rattle.part_files.proofs.Knowing.{Keeps, Knows, knows-aged, knows-came, knows-change, knows-frame, own-flood}
use Rattle.part_files.proofs.Leaving.{AreOutlets, IsOutlet, outlet-far, outlets-are}
use Rattle.part_files.proofs.Remotes.{HasAddr, IsFar, IsFlood}
use Rattle.part_files.proofs.Stations.{Stand}

-- what leaves at an outlet fits into a record
abbrev pub SentFits : ℕ → Sent → Type 0
SentFits n o = IsOutlet n o.place × IfOk o.sent Fits

-- so does all that leaves, at no more than 767 of them; and of what is dropped nothing does
pub record DecisionFits (n : ℕ) (d : Decision) : Type 0 where
  pub outcomes : AllByRecursion (SentFits n) d.outcomes
  pub few : length d.outcomes ≤ 767
  pub dropped : (reason : Reason) → d.dropped ≡ Some reason → d.outcomes ≡ []

-- the same of an answer
abbrev pub AnswerFits : ℕ → Answer → Type 0
AnswerFits n (Decided decision) = DecisionFits n decision
AnswerFits n (Replied fault) = Unit {0}

-- a packet is octets, and a change adds endpoints by addresses alone
abbrev pub IsInput : Input → Type 0
IsInput (FrameAt port original b) = Unit {0}
IsInput (Packet original b) = IsText b
IsInput (Asks c) = HasAddr c

length-each : {A B : Type 0} (f : A → B) (xs : List A) → length (map f xs) ≡ length xs
length-each f [] = refl
length-each f (x ∷ xs) = ap suc (length-each f xs)

module _ (n : ℕ) (U : Underlay) (few : n ≤ 255) (own : IsUnderlay U) where
  sents-fit : (S : Settings) (vid : ℕ) (f : Frame) (places : List Place) → Keeps n U S → IsShortFrame f → AllByRecursion (IsOutlet n) places → AllByRecursion (SentFits n) (map (sent_at S vid f) places)
  sents-fit S vid f [] k short all = tt
  sents-fit S vid f (place ∷ places) k short all = (
    (all.0, emitted-short S.ports S.overlay vid f place (subst IsUnderlay (sym k.underlay) own) (outlet-far n place all.0) short),
    sents-fit S vid f places k short all.1,
  )

  by-verdict : (S : Settings) (x : Arrival) (r : Result (List Place) Reason) → Keeps n U S → IsCome x → IfOk r (AreOutlets n) → DecisionFits n (by_verdict S x r)
  by-verdict S x (Ok places) k come are = record {
    outcomes = sents-fit S x.vid x.frame places k (record { dst = come.dst; src = come.src; body = come.body }) are.0;
    few = omega (arith, length-each (sent_at S x.vid x.frame) places, are.1);
    dropped = λ reason is. absurd cc;
  }
  by-verdict S x (Err reason) k come are = record { outcomes = tt; few = omega arith; dropped = λ why is. refl }

  verdict-outlets : (ports : Ports) (o : Option SegmentSettings) (from : Place) (f : Frame) (m : Table) → length ports.ports ≡ n → ((s : SegmentSettings) → o ≡ Some s → IsFlood s.flood) → Stand IsFar m → IfOk (verdict_in ports o from f m) (AreOutlets n)
  verdict-outlets ports None from f m many flood all = tt
  verdict-outlets ports (Some s) from f m many flood all =
      let same = length-each (λ (port : PortRule). port.up) ports.ports ∙ many in
      subst (λ (k : ℕ). IfOk (verdict_in ports (Some s) from f m) (AreOutlets k)) same
      (outlets-are (config_of ports s) from f m (omega (arith, same, few)) (flood s refl) all)

  decided-fits : (t : ℕ) (B : Bridges) (r : Result Arrival Refused) → Knows n U B → ((x : Arrival) → r ≡ Ok x → IsCome x) → DecisionFits n (decided t B r)
  decided-fits t B (Err refused) k come = record { outcomes = tt; few = omega arith; dropped = λ why is. refl }
  decided-fits t B (Ok x) k come =
      let after_it = knows-frame n U t x.vid x.from x.frame B (come x refl).from k in
      by-verdict B.settings x (verdict t x.vid x.from x.frame B) k.settings (come x refl)
      (verdict-outlets B.settings.ports (segment_at B.settings x.vid) x.from x.frame ((after_frame t x.vid x.from x.frame B).tables x.vid) k.settings.ports
      (λ s is. own-flood n U B.settings x.vid s k.settings is) (after_it.tables x.vid))

  apart : (B : Bridges) → Knows n U B → B.settings.overlay.underlay.vxlan_port ≢ B.settings.overlay.underlay.geneve_port
  apart B k = subst (λ (u : Underlay). u.vxlan_port ≢ u.geneve_port) (sym k.settings.underlay) own.two_ports

  by-fits : (t : ℕ) (B : Bridges) (i : Input) → Knows n U B → IsInput i → AnswerFits n (answer_by t B i)
  by-fits t B (FrameAt port original b) k input = decided-fits t B (came_at B.settings.ports B.settings.overlay port original b) k (λ x is. came_at-come B.settings.ports B.settings.overlay port original b x is)
  by-fits t B (Packet original b) k input = decided-fits t B (came_by B.settings.overlay original b) k (λ x is. came_by-come B.settings.overlay original b x (apart B k) input is)
  by-fits t B (Asks c) k input = tt

  -- what is answered
  pub answer-fits : (s : State) (e : Event) → Knows n U s.bridges → IsInput e.input → AnswerFits n (answer s e)
  answer-fits s e k input = by-fits e.at (aged e.at s.bridges) e.input (knows-aged n U e.at s.bridges k) input

  knows-input : (t : ℕ) (B : Bridges) (i : Input) → Knows n U B → IsInput i → Knows n U (bridges_after t B i)
  knows-input t B (FrameAt port original b) k input = knows-came n U t B (came_at B.settings.ports B.settings.overlay port original b) (λ x is. (came_at-come B.settings.ports B.settings.overlay port original b x is).from) k
  knows-input t B (Packet original b) k input = knows-came n U t B (came_by B.settings.overlay original b) (λ x is. (came_by-come B.settings.overlay original b x (apart B k) input is).from) k
  knows-input t B (Asks c) k input = knows-change n U t c B input k

  -- and what is known then
  pub knows-after : (s : State) (e : Event) → Knows n U s.bridges → IsInput e.input → Knows n U (after s e).bridges
  knows-after s e k input = knows-aged n U e.at (bridges_after e.at (aged e.at s.bridges) e.input) (knows-input e.at (aged e.at s.bridges) e.input (knows-aged n U e.at s.bridges k) input)
