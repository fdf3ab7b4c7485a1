pub mod LastLemmas
pub mod SavedLogLemmas
