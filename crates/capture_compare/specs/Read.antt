-- A frame that was read, as a value. It serves the contracts.
use Rattle.std.specs.Prelude.{Option, Some, None}
use Rattle.capture_compare.specs.Difference.{BareFrame}
use Rattle.capture_compare.specs.declared.lonely.frame.Bare.{Bare}

-- without where it lies in memory
abbrev pub as_bare : Bare → BareFrame
as_bare b = record { addresses = b.addresses.now; vid = b.vid; body = b.body.now }

abbrev pub bare_in : Option Bare → Option BareFrame
bare_in (Some b) = Some (as_bare b)
bare_in None = None
