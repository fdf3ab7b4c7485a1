pub mod CpuCacheLemmas
