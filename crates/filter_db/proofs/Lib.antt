pub mod DatabaseLemmas
pub mod ListLemmas
pub mod RowsLemmas
pub mod SegmentLemmas
pub mod TableLemmas
pub mod StandingLemmas
