pub mod CpuCache
pub mod Magazine
pub mod Need
pub mod Room
