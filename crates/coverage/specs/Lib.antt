pub mod Whole
pub mod Scaffolding
