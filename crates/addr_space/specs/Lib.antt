pub mod MappedRun
pub mod MappedRunLoan
pub mod Space
pub mod SpaceLoan
