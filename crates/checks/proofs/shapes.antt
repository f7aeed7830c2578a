pub mod Frames
pub mod Sums
