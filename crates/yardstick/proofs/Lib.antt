pub mod CachesLemmas
pub mod FreeChunkLemmas
pub mod LegalLemmas
pub mod PagesLemmas
pub mod RepliesLemmas
pub mod StepsLemmas
pub mod TestsLemmas
pub mod WritesLemmas
