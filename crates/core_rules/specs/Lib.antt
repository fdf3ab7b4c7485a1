pub mod HeaderRules
pub mod CacheRules
pub mod SlabRules
pub mod PlaceRules
pub mod LogRules
pub mod Rules
pub mod Laws
pub mod Pieces
