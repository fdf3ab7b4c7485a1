pub mod LimitsLemmas
pub mod ToldLemmas
pub mod ValuesLemmas
