pub mod Chunks
pub mod HeapSlabs
pub mod Laws
pub mod Standing
pub mod States
