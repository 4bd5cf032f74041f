use Rattle.std.proofs.Common.{le_refl}
use Rattle.endpoint_core.specs.Step.{opened}
use Rattle.noninterference.proofs.Running.{told-alone, agree-alone, only-append, only-rising, settled-alone}
use Rattle.noninterference.proofs.isolation.laws.alone.Goals as goal

pub returns : goal.returns
returns c = record {
  told = told-alone;
  agree = agree-alone;
  in_turn = λ vid S es others. only-append vid (opened S) es others;
  rising = λ vid S es rising. only-rising vid (opened S) 0 0 es (le_refl 0) rising;
  settled = settled-alone;
}
