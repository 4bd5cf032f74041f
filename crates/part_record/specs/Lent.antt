-- Whether digests that are lent may be those of captures with so many octets. It states no standard.
use Rattle.std.specs.Prelude.{◌≡◌, ◌≢◌, ℕ, zero, suc, List, length, map, take, slice_get}
use Rattle.timeline.specs.declared.source.Tap.TheVariants as taps
use Rattle.part_record.specs.declared.digests.CaptureDigest.{CaptureDigest}
use Rattle.part_record.specs.declared.lent.LentFault.{LentFault}
use Rattle.part_record.specs.declared.lent.LentFault.TheVariants as faults

-- the numbers of octets that digests tell
abbrev pub octets_told : List CaptureDigest → List ℕ
octets_told digests = map (λ d. d.octets) digests

-- the captures of the ports have so many octets, and that of the underlay has
pub record HaveOctets (ports : List CaptureDigest) (underlay : CaptureDigest) (counts : List ℕ) (count : ℕ) : Type 0 where
  pub each : octets_told ports ≡ counts
  pub last : underlay.octets ≡ count

-- what differs first: the number of ports, the octets of a port's capture where those before it are the same, and those of the
-- underlay's capture where all ports' are
abbrev pub IsWhatDiffers : List CaptureDigest → CaptureDigest → List ℕ → ℕ → LentFault → Type 0
IsWhatDiffers ports underlay counts count faults.Ports = length ports ≢ length counts
IsWhatDiffers ports underlay counts count (faults.Octets (taps.Port zero)) = ⊥
IsWhatDiffers ports underlay counts count (faults.Octets (taps.Port (suc port))) =
    (length ports ≡ length counts) × (take port (octets_told ports) ≡ take port counts)
    × (slice_get (octets_told ports) port ≢ slice_get counts port)
IsWhatDiffers ports underlay counts count (faults.Octets taps.Underlay) = (octets_told ports ≡ counts) × (underlay.octets ≢ count)
