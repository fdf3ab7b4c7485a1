pub mod EnterLemmas
pub mod JournalLemmas
pub mod MadeLemmas
pub mod AllocLemmas
pub mod CachesLemmas
mod OneListLemmas
mod RangeLemmas
mod FreedLemmas
pub mod FinishLemmas
mod TurnedLemmas
mod PieceLemmas
pub mod RunLemmas
pub mod StockLemmas
pub mod FitLemmas
pub mod PushLemmas
pub mod TestLemmas
pub mod StandingLemmas
pub mod InListsLemmas
pub mod OnceLemmas
