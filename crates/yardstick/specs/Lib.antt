pub mod Codes
pub mod Kept
pub mod Setting
pub mod Tests
