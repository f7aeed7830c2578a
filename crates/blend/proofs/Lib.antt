pub mod Bits
pub mod Counts
pub mod Finites
pub mod Bounded
