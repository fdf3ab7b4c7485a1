pub mod Addresses
pub mod CacheDef
pub mod CacheName
pub mod Cases
pub mod Geometry
pub mod Record
pub mod Sizes
pub mod Constants
