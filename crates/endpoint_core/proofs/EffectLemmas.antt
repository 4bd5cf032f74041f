-- What the effects of changes are to, and what they find there.
use Rattle.std.proofs.Common.{◌≡◌, ℕ, ◌==◌, Bool, true, false, Option, Some, None, refl}
use Rattle.std.specs.Prelude.{is_none, is_some}
use Rattle.std.specs.Option.{option_map, option_and_then}
use Rattle.std.proofs.lemmas.Bool.{false≢true}
use Rattle.overlay.specs.Ports.{Members, members_at}
use Rattle.overlay.specs.declared.underlay.segment.Segment.{Segment as Tunneled}
use Rattle.overlay.specs.declared.settings.change.Change.{Change}
use Rattle.overlay.specs.declared.settings.change.Change.TheVariants.{AddFlood, RemoveFlood, Fix, Unfix, SetAgeing, SetLearning, SetMember, PortUp, PortDown, Flush, AddSegment, RemoveSegment, SetLimit}
use Rattle.endpoint_core.specs.declared.state.fault.ChangeFault.{ChangeFault}
use Rattle.endpoint_core.specs.Settings.{Settings, BridgeSettings, SegmentSettings, joined}
use Rattle.endpoint_core.specs.Effect.{Effect, ToFlood, ToBridge, ToLimit, ToMembers, ToPort, Comes, Goes, ToNothing, effect}
use Rattle.endpoint_core.specs.Change.{is_about, in_segment, refused}

-- it is to the segment of this VID, or to a port and thereby to every segment
abbrev pub is_to : ℕ → Effect → Bool
is_to w (ToFlood vid change) = w == vid
is_to w (ToBridge vid change) = w == vid
is_to w (ToLimit vid limit) = w == vid
is_to w (ToMembers vid port egress) = w == vid
is_to w (ToPort port up) = true
is_to w (Comes new) = w == new.vid
is_to w (Goes vid) = w == vid
is_to w ToNothing = false

-- a change does nothing to a segment that it isn't about
pub effect-other : (w : ℕ) (c : Change) → is_about w c ≡ false → is_to w (effect c) ≡ false
effect-other w (AddFlood vid addr tunnel) other = other
effect-other w (RemoveFlood vid addr tunnel) other = other
effect-other w (Fix vid mac target) other = refl
effect-other w (Unfix vid mac) other = refl
effect-other w (SetAgeing vid seconds) other = other
effect-other w (SetLearning vid on) other = other
effect-other w (SetMember vid port egress) other = other
effect-other w (PortUp port) other = other
effect-other w (PortDown port) other = other
effect-other w (Flush vid) other = refl
effect-other w (AddSegment new) other = other
effect-other w (RemoveSegment vid) other = other
effect-other w (SetLimit vid limit) other = other

-- a segment that gets or loses a member is there
abbrev pub IsThere : Settings → Effect → Type 0
IsThere S (ToMembers vid port egress) = is_some (members_at S.ports vid) ≡ true
IsThere S _ = Unit {0}

-- of a segment that isn't there nothing is asked
there_where : (bridge : Option BridgeSettings) (segment : Option Tunneled) (members : Option Members) (next : SegmentSettings → Option ChangeFault) → is_none (in_segment (option_and_then (λ b. option_and_then (λ g. option_map (λ m. joined b g m) members) segment) bridge) next) ≡ true → is_some members ≡ true
there_where bridge segment (Some m) next h = refl
there_where None segment None next h = absurd (false≢true h)
there_where (Some b) None None next h = absurd (false≢true h)
there_where (Some b) (Some g) None next h = absurd (false≢true h)

-- that of a change that the settings don't refuse
pub effect-there : (S : Settings) (c : Change) → is_none (refused S c) ≡ true → IsThere S (effect c)
effect-there S (AddFlood vid addr tunnel) taken = tt
effect-there S (RemoveFlood vid addr tunnel) taken = tt
effect-there S (Fix vid mac target) taken = tt
effect-there S (Unfix vid mac) taken = tt
effect-there S (SetAgeing vid seconds) taken = tt
effect-there S (SetLearning vid on) taken = tt
effect-there S (SetMember vid port egress) taken = there_where _ _ _ _ taken
effect-there S (PortUp port) taken = tt
effect-there S (PortDown port) taken = tt
effect-there S (Flush vid) taken = tt
effect-there S (AddSegment new) taken = tt
effect-there S (RemoveSegment vid) taken = tt
effect-there S (SetLimit vid limit) taken = tt
