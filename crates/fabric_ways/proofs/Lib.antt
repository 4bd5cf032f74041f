pub mod HopLemmas
pub mod Labelling
pub mod Marking
pub mod MemberLemmas
pub mod NetworkLemmas
pub mod PictureLemmas
