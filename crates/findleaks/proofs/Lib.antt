pub mod FoundLemmas
pub mod FollowLemmas
pub mod WordsLemmas
pub mod ClassesLemmas
pub mod ChainsLemmas
