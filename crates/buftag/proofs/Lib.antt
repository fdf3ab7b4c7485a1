pub mod FindingsLemmas
pub mod LawsLemmas
pub mod RowsLemmas
pub mod ShapeLemmas
pub mod UnconstructedLemmas
pub mod WrittenLemmas
