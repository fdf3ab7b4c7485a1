pub mod Command
pub mod Told
pub mod Values
pub mod Jobs
pub mod Texts
pub mod Limits
