pub mod Schedule
pub mod Ledger
pub mod Room
pub mod Behind
pub mod Commits
pub mod Laws
