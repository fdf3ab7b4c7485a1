pub mod AuditLemmas
pub mod UsageLemmas
pub mod TallyLemmas
pub mod GroupLemmas
