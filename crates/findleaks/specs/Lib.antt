pub mod Found
pub mod Follow
pub mod Classes
pub mod Chains
