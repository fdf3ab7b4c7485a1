pub mod Chunks
pub mod Laws
pub mod Memory
pub mod Pages
pub mod States
