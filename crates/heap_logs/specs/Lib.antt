pub mod Acts
pub mod Transactions
pub mod Fails
pub mod Audits
pub mod LastActs
pub mod Saved
pub mod Laws
