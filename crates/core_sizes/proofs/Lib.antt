mod LengthLemmas
mod FrontLemmas
mod SlabLemmas
mod PageLemmas
mod PlaceLemmas
mod TransLemmas
mod AuditLemmas
mod FailLemmas
mod SavedLemmas
pub mod WholeLemmas
