pub mod Counts
pub mod Cells
pub mod Axes
