pub mod Usages
pub mod Tally
pub mod Groups
