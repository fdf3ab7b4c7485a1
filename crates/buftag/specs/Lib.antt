pub mod Codes
pub mod Findings
pub mod Laws
pub mod Rows
pub mod Shape
pub mod Unconstructed
pub mod Written
