pub mod TallyLemmas
pub mod BalanceLemmas
