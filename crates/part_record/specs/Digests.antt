-- The text that lends the digests of captures to the parts of a run. It states no standard.
use Rattle.std.specs.Prelude.{◌≡◌, ◌≢◌, ◌<◌, ◌≤◌, ℕ, ◌+◌, ◌^◌, List, [], ◌∷◌, ◌++◌, length, slice_index, codes, decimal, All}
use Rattle.timeline.specs.declared.source.Tap.TheVariants as taps
use Rattle.part_record.specs.InTurn.{lines_in_turn}
use Rattle.part_record.specs.Record.{capture_word, sum_line}
use Rattle.sha2.specs.Sha256.{sha256}
use Rattle.part_record.specs.Sum.{IsSum, counted}
use Rattle.part_record.specs.declared.digests.CaptureDigest.{CaptureDigest}
use Rattle.part_record.specs.declared.digests.DigestsFault.{DigestsFault}
use Rattle.part_record.specs.declared.digests.DigestsFault.TheVariants as faults

-- what can be told of a capture: a number of octets of 64 bits, and a digest
pub record IsDigest (d : CaptureDigest) : Type 0 where
  pub octets : d.octets < 2 ^ 64
  pub sum : IsSum d.sum

-- what is told of a capture with these octets
abbrev pub digest_of : List ℕ → CaptureDigest
digest_of octets = record { octets = counted octets; sum = sha256 octets }

-- what can be told of the captures of a run
pub record AreDigests (ports : List CaptureDigest) (underlay : CaptureDigest) : Type 0 where
  pub each : All IsDigest ports
  pub few : length ports ≤ 255
  pub last : IsDigest underlay

-- a character doesn't stand in a text
abbrev pub Lacks : ℕ → List ℕ → Type 0
Lacks c text = (i : ℕ) → i < length text → slice_index text i ≢ c

-- the first line, which says what the text is, and of which version
abbrev pub first_line : List ℕ
first_line = codes "tep digests 1\n"

-- a word, the number of octets, a space, and the digest of 64 hexadecimal digits with the end of the line
abbrev pub digest_line : List ℕ → CaptureDigest → List ℕ
digest_line word d = word ++ (decimal d.octets ++ 32 ∷ sum_line [] d.sum)

-- the line of a port's capture, as `capture p1 1234 ba78..`
abbrev pub port_line : ℕ → CaptureDigest → List ℕ
port_line port d = digest_line (capture_word (taps.Port port)) d

-- and of the underlay's
abbrev pub underlay_line : CaptureDigest → List ℕ
underlay_line d = digest_line (capture_word taps.Underlay) d

-- the captures of the ports from this one on
abbrev pub digest_lines : ℕ → List CaptureDigest → List ℕ
digest_lines port ds = lines_in_turn port_line port ds

-- the text of the digests of a run's captures: one capture a line, the ports' rising and the underlay's last
abbrev pub digests_text : List CaptureDigest → CaptureDigest → List ℕ
digests_text ports underlay = first_line ++ (digest_lines 1 ports ++ underlay_line underlay)

-- up to the place that the fault names a text has the lines of digests, and there it has none that can follow
abbrev pub IsFaultIn : List ℕ → DigestsFault → Type 0
IsFaultIn text faults.Head = (rest : List ℕ) → text ≢ first_line ++ rest
IsFaultIn text faults.Capture =
    (ports : List CaptureDigest) × (rest : List ℕ) × All IsDigest ports
    × (length ports ≤ 255) × (text ≡ first_line ++ (digest_lines 1 ports ++ rest))
    × ((d : CaptureDigest) (behind : List ℕ) → IsDigest d → length ports < 255 → rest ≢ port_line (length ports + 1) d ++ behind)
    × ((d : CaptureDigest) (behind : List ℕ) → IsDigest d → rest ≢ underlay_line d ++ behind)
IsFaultIn text faults.Behind =
    (ports : List CaptureDigest) × (underlay : CaptureDigest) × (rest : List ℕ) × AreDigests ports underlay
    × (text ≡ digests_text ports underlay ++ rest) × (rest ≢ [])
