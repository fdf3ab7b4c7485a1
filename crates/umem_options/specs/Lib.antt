pub mod Items
pub mod Flags
pub mod Debug
pub mod Logging
pub mod Limits
pub mod Capacity
