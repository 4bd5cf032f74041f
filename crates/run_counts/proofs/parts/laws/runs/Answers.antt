use Rattle.std.proofs.Common.{refl, ℕ, ◌^◌, ◌<◌, min, arith}
use Rattle.endpoint_core.specs.Counts.{most}
use Rattle.run_counts.proofs.parts.laws.runs.Goals as goal

fits : (n : ℕ) → min most n < 2 ^ 64
fits n = omega arith

pub returns : goal.returns
returns c = record {
  can = λ S cs es cut places. record {
    counts = λ segment number. fits _;
    came = λ tap. (fits _, fits _);
    left = λ tap. (fits _, fits _);
    refused = λ fault. fits _;
    partial = fits _;
    cut = places;
  };
  text = λ S cs es cut. refl;
}
