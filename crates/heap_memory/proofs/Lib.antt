mod WriteLemmas
mod PagesLemmas
mod StateLemmas
mod ChunkLemmas
mod MadeLemmas
mod StartLemmas
