pub mod GrowthLemmas
pub mod PassedLemmas
pub mod AuditLemmas
pub mod ChunkLemmas
