use Rattle.std.proofs.Common.{◌≡◌, ℕ, List, ◌++◌, IsSome}
use Rattle.std.specs.Io.KnownBytes.{Consumes}
use Rattle.pcap.specs.Counts.{GoesOnBy}
use Rattle.part_record.specs.Sum.{HasTaken}
use Rattle.part_record.proofs.digest_input.DigestInput.finish.Given as goal

abbrev pub invariant-loop : goal.invariant-loop
invariant-loop g l = record {
  digest : (octets : List ℕ) → HasTaken l.initial.self.hasher l.initial.self.octets octets
      → (rest : List ℕ) × Consumes (g.R.Input.remaining l.initial.self.input) (g.R.Input.remaining l.self.input) rest × HasTaken l.self.hasher l.self.octets (octets ++ rest);
  digested : IsSome l.initial.self.hasher → IsSome l.self.hasher;
  quiet : g.R.Input.failures l.self.input ≡ g.R.Input.failures l.initial.self.input;
  calls : GoesOnBy l.counter (g.R.Input.calls l.initial.self.input) (g.R.Input.calls l.self.input);
}
