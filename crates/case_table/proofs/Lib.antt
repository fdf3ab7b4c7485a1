pub mod AddressesLemmas
pub mod CacheNameLemmas
pub mod CasesLemmas
pub mod GeometryLemmas
pub mod RecordLemmas
pub mod SizesLemmas
