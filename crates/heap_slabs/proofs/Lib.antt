mod FreeLemmas
mod LawLemmas
mod Lists
mod ReapLemmas
mod StandingLemmas
mod StateLemmas
mod UnusedLemmas
