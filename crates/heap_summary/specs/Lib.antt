pub mod Changes
pub mod Tallies
pub mod Sums
pub mod Texts
