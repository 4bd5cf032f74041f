pub mod FlowLemmas
pub mod PartsLemmas
pub mod Sending
pub mod SenderLemmas
pub mod FittingLemmas
pub mod RemoteLemmas
pub mod SumsLemmas
