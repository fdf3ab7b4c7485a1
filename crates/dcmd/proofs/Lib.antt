pub mod Worked
mod WorkedCommands
pub mod LineLemmas
pub mod CountLemmas
pub mod AnswerLemmas
pub mod LeakLemmas
pub mod WalkLemmas
pub mod CommandLemmas
