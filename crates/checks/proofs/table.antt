pub mod Axes
pub mod Grids
