mod CutLemmas
mod FilesLemmas
mod MemFolderLemmas
mod MemSourceLemmas
mod NumbersLemmas
mod TransferLemmas
pub mod LinesLemmas
pub mod Lists
pub mod OrderedLemmas
pub mod WordsLemmas
