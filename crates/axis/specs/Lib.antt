pub mod Locations
pub mod Cells
pub mod Exact
pub mod Steps
pub mod Picks
pub mod Uniform
pub mod Scaffolding
