pub mod Slices
pub mod LinearSlices
pub mod Scaffolding
