pub mod ItemsLemmas
pub mod LimitsLemmas
