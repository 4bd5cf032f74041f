-- Refusals: why a frame or packet is dropped, and in which segment where it came to one. It states no standard.
use Rattle.std.specs.Prelude.{ℕ, Option, Some, None}
use Rattle.wire.specs.declared.ether.reason.Reason.{Reason}
use Rattle.wire.specs.declared.ether.reason.Refused.{Refused}

-- a refusal before the segment is known
abbrev pub nowhere : Reason → Refused
nowhere reason = record { segment = None; reason = reason }

-- a refusal in a segment
abbrev pub within : ℕ → Reason → Refused
within vid reason = record { segment = Some vid; reason = reason }

-- a reason where there is one, as a refusal in a segment where that is known
abbrev pub as_refused : Option ℕ → Option Reason → Option Refused
as_refused vid (Some reason) = Some (record { segment = vid; reason = reason })
as_refused vid None = None
