pub mod ChunkCalls
pub mod FreePlaces
pub mod Heap
pub mod Performs
pub mod Shelves
