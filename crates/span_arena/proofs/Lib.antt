pub mod ArenaLemmas
pub mod GapLemmas
pub mod UntakenLemmas
