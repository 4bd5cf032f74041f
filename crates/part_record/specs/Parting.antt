-- Whether the parts of a run are all of it. It states no standard.
use Rattle.std.specs.Prelude.{◌≡◌, ◌<◌, ℕ, List, Option, None, Some, count_by}
use Rattle.wire.specs.Tag.{IsVid}
use Rattle.segment_set.specs.Segments.{Segments, holds}
use Rattle.part_record.specs.declared.parting.PartingFault.{PartingFault}
use Rattle.part_record.specs.declared.parting.PartingFault.TheVariants as faults

-- in how many parts a segment is; None: what comes to no segment
abbrev pub times : List Segments → Option ℕ → ℕ
times parts segment = count_by (λ part. holds part segment) parts

-- each segment of a VID below this one is in one part
abbrev pub AreOnceBelow : ℕ → List Segments → Type 0
AreOnceBelow end parts = (vid : ℕ) → IsVid vid → vid < end → times parts (Some vid) ≡ 1

-- each segment is in one part, and what comes to none is
pub record IsWhole (parts : List Segments) : Type 0 where
  pub segments : (vid : ℕ) → IsVid vid → times parts (Some vid) ≡ 1
  pub none : times parts None ≡ 1

-- what the fault names is in no part, or in more than one, and all before it are in one
abbrev pub IsPartedBadly : PartingFault → List Segments → Type 0
IsPartedBadly (faults.Missing vid) parts = IsVid vid × (times parts (Some vid) ≡ 0) × AreOnceBelow vid parts
IsPartedBadly (faults.Doubled vid) parts = IsVid vid × (1 < times parts (Some vid)) × AreOnceBelow vid parts
IsPartedBadly faults.NoneMissing parts = (times parts None ≡ 0) × AreOnceBelow 4095 parts
IsPartedBadly faults.NoneDoubled parts = (1 < times parts None) × AreOnceBelow 4095 parts
