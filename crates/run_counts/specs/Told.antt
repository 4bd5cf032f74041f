-- What a summary tells of a run or of a part of it, and what the summaries of parts tell together. It states no standard.
--     Told, text_of      the counts, and the text that a run prints of them
--     IsTold      counts that a run can have
--     SaysSame      the counts of two that their texts tell
--     nothing, together      no counts, and those of two parts
use Rattle.std.specs.Prelude.{◌≡◌, ⊤, All, ℕ, ◌+◌, ◌^◌, ◌<◌, ◌≤◌, min, List, [], ◌++◌, Option, Some, None}
use Rattle.wire.specs.Reason.{number_of}
use Rattle.wire.specs.Tag.{IsVid}
use Rattle.wire.specs.declared.ether.reason.Reason.{Reason}
use Rattle.timeline.specs.declared.source.Tap.{Tap}
use Rattle.timeline.specs.declared.source.Tap.TheVariants.{Port, Underlay}
use Rattle.endpoint_core.specs.declared.state.fault.ChangeFault.{ChangeFault}
use Rattle.endpoint_core.specs.Counts.{Counts, most}
use Rattle.run_counts.specs.Summary.{summary_text}
use Rattle.run_counts.specs.Totals.{Totals, flow_of, flow_with}
use Rattle.run_counts.specs.declared.flow.Flow.{Flow}

-- how often each thing was decided in each segment and in none, what passed at places, the refused changes and the checksums
-- left to the card, and the cut captures
pub record Told : Type 0 where
  pub counts : Counts
  pub totals : Totals
  pub cut : List Tap

-- the summary of a run on so many ports
abbrev pub text_of : ℕ → Told → List ℕ
text_of ports t = summary_text t.counts ports t.totals t.cut

-- ---- counts of runs

-- a place of an endpoint with so many ports
abbrev pub IsPlace : ℕ → Tap → Type 0
IsPlace ports (Port port) = (1 ≤ port) × (port ≤ ports)
IsPlace ports Underlay = ⊤

-- a segment that there can be, or none
abbrev pub IsSegment : Option ℕ → Type 0
IsSegment (Some vid) = IsVid vid
IsSegment None = ⊤

-- both of 64 bits
abbrev pub IsFlow : Flow → Type 0
IsFlow flow = (flow.frames < 2 ^ 64) × (flow.octets < 2 ^ 64)

-- all counts are of 64 bits, and each cut capture is one of the places
pub record IsTold (ports : ℕ) (t : Told) : Type 0 where
  pub counts : (segment : Option ℕ) (number : ℕ) → t.counts segment number < 2 ^ 64
  pub came : (tap : Tap) → IsFlow (t.totals.came tap)
  pub left : (tap : Tap) → IsFlow (t.totals.left tap)
  pub refused : (fault : ChangeFault) → t.totals.refused fault < 2 ^ 64
  pub partial : t.totals.partial < 2 ^ 64
  pub cut : All (IsPlace ports) t.cut

-- the same in all that a summary has a line for
pub record SaysSame (ports : ℕ) (s t : Told) : Type 0 where
  pub sent : (segment : Option ℕ) → IsSegment segment → s.counts segment 0 ≡ t.counts segment 0
  pub dropped : (segment : Option ℕ) (reason : Reason) → IsSegment segment
      → s.counts segment (number_of reason) ≡ t.counts segment (number_of reason)
  pub came : (tap : Tap) → IsPlace ports tap → s.totals.came tap ≡ t.totals.came tap
  pub left : (tap : Tap) → IsPlace ports tap → s.totals.left tap ≡ t.totals.left tap
  pub refused : (fault : ChangeFault) → s.totals.refused fault ≡ t.totals.refused fault
  pub partial : s.totals.partial ≡ t.totals.partial
  pub cut : s.cut ≡ t.cut

-- ---- parts

-- nothing was counted
abbrev pub nothing : Told
nothing = record {
  counts = λ segment number. 0;
  totals = record { came = λ tap. flow_of []; left = λ tap. flow_of []; refused = λ fault. 0; partial = 0 };
  cut = [];
}

-- each count ends at the greatest number of 64 bits
abbrev pub sum_of : ℕ → ℕ → ℕ
sum_of m n = min most (m + n)

-- what passed at places, the refused changes, and the checksums left to the card, of both
abbrev pub totals_with : Totals → Totals → Totals
totals_with a b = record {
  came = λ tap. flow_with (a.came tap) (b.came tap);
  left = λ tap. flow_with (a.left tap) (b.left tap);
  refused = λ fault. sum_of (a.refused fault) (b.refused fault);
  partial = sum_of a.partial b.partial;
}

-- the counts of both
abbrev pub together : Told → Told → Told
together a b = record {
  counts = λ segment number. sum_of (a.counts segment number) (b.counts segment number);
  totals = totals_with a.totals b.totals;
  cut = a.cut ++ b.cut;
}
