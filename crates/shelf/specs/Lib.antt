pub mod Laws
pub mod Shelf
pub mod Steps
pub mod Stock
