pub mod Items
pub mod Drawn
pub mod Pictures
pub mod Laws
