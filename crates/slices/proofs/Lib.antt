pub mod Counts
pub mod Runs
pub mod Slices
pub mod Sliced
pub mod Alongs
pub mod Refusals
