pub mod Journal
pub mod Books
pub mod Made
pub mod Freed
pub mod Finish
pub mod Fit
pub mod InLists
pub mod Tests
