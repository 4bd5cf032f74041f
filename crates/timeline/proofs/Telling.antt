-- What is told where there is no fault.
use Rattle.std.proofs.Common.{◌≡◌, List, [], ◌∷◌, Ok}
use Rattle.timeline.specs.Timeline.{Timeline, if_faultless}
use Rattle.timeline.specs.declared.fault.TimelineFault.{TimelineFault}

pub faultless-ok : (faults : List TimelineFault) (t timeline : Timeline) → if_faultless faults t ≡ Ok timeline → t ≡ timeline
faultless-ok [] t timeline h = cc
faultless-ok (fault ∷ others) t timeline h = absurd cc
