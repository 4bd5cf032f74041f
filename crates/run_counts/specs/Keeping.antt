-- What is kept while a run goes, and what each step makes of it. It states no standard.
--     Keeping      the counters, and the text once the run is at its end
--     totals_in      what the counters say
--     Expects, Hears, Sees      an event more, an answer more, both
--     Ends      the end
use Rattle.std.specs.Prelude.{◌≡◌, ◌⊎◌, ℕ, Bool, true, List, [], ◌∷◌, ◌++◌, length, slice_index_or, Option, Some, None}
use Rattle.timeline.specs.declared.event.Event.{Event}
use Rattle.timeline.specs.declared.source.Tap.{Tap}
use Rattle.timeline.specs.declared.source.Tap.TheVariants.{Port, Underlay}
use Rattle.endpoint_core.specs.Fault.{number_of}
use Rattle.endpoint_core.specs.declared.state.fault.ChangeFault.{ChangeFault}
use Rattle.endpoint_core.specs.Step.{Answer, State}
use Rattle.stream_run.specs.Sights.{Due, Sight}
use Rattle.run_counts.specs.Summary.{counts_text}
use Rattle.run_counts.specs.Totals.{Totals, totals_of}
use Rattle.run_counts.specs.declared.flow.Flow.{Flow}
use Rattle.run_counts.specs.declared.flow.Flows.{Flows}

-- ---- counters

-- what stands for the flow of a port that isn't there
abbrev pub no_flow : Flow
no_flow = record { frames = 0; octets = 0 }

-- the flow of a place
abbrev pub flow_in : Flows → Tap → Flow
flow_in flows (Port port) = slice_index_or flows.ports port no_flow
flow_in flows Underlay = flows.underlay

-- what passed at places, where no change was refused and no checksum left to the card
abbrev pub passed : (Tap → Flow) → (Tap → Flow) → Totals
passed came left = record { came = came; left = left; refused = λ fault. 0; partial = 0 }

-- how often changes were refused for a cause, of counts by the numbers of the causes
abbrev pub refusals_in : List ℕ → ChangeFault → ℕ
refusals_in counts fault = slice_index_or counts (number_of fault) 0

-- what is kept
pub record Keeping : Type 0 where
  pub came : Flows
  pub left : Flows
  -- by the number of the cause
  pub refused : List ℕ
  pub partial : ℕ
  -- that of the end of the run, and before nothing
  pub text : List ℕ
  -- whether memory was refused for it
  pub is_lost : Bool

-- what the counters say
abbrev pub totals_in : Keeping → Totals
totals_in k = record {
  came = flow_in k.came;
  left = flow_in k.left;
  refused = refusals_in k.refused;
  partial = k.partial;
}

-- ---- steps

-- where the counters say what these events and answers come to, they say so afterwards of those
abbrev pub CountsOn : Keeping → Keeping → (List Event → List Event) → (List Answer → List Answer) → Type 0
CountsOn old new more_events more_answers =
    (es : List Event) (given : List Answer) → totals_in old ≡ totals_of es given
    → totals_in new ≡ totals_of (more_events es) (more_answers given)

-- an event more came
abbrev pub Expects : Keeping → Due → Keeping → Type 0
Expects old d new = CountsOn old new (λ es. es ++ d.event ∷ []) (λ given. given)

-- an answer more was given
abbrev pub Hears : Keeping → Answer → Keeping → Type 0
Hears old a new = CountsOn old new (λ es. es) (λ given. given ++ a ∷ [])

-- an event more came and was answered; one that isn't told counts for nothing
abbrev pub SeesReply : Keeping → Event → Option Answer → Keeping → Type 0
SeesReply old e (Some a) new = CountsOn old new (λ es. es ++ e ∷ []) (λ given. given ++ a ∷ [])
SeesReply old e None new = new ≡ old

-- the same of what was seen
abbrev pub Sees : Keeping → Sight → Keeping → Type 0
Sees old s new = SeesReply old s.event s.reply new

-- at the end the text is that of the counts, unless memory was refused
abbrev pub Ends : Keeping → State → Keeping → Type 0
Ends old s new =
    (totals_in new ≡ totals_in old)
    × ((new.text ≡ counts_text s.counts (length s.bridges.settings.ports.ports) (totals_in old)) ⊎ (new.is_lost ≡ true))
