pub mod Last
pub mod Log
pub mod SavedLog
