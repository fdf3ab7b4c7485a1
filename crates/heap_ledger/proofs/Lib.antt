pub mod ScheduleLemmas
pub mod RoomLemmas
pub mod EntriesLemmas
pub mod CommitLemmas
pub mod StartLemmas
pub mod GrowthLemmas
pub mod MayCommitLemmas
pub mod PlanLemmas
