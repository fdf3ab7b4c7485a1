pub mod SpaceLemmas
pub mod SpaceLoanLemmas
