pub mod Arena
pub mod Gap
pub mod Untaken
