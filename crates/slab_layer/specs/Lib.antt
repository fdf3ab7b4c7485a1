pub mod Rounds
pub mod Slab
pub mod Slabs
