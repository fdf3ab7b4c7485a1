pub mod Lists
pub mod RoundsLemmas
pub mod SlabLemmas
pub mod SlabsLemmas
