pub mod Nodes
pub mod Numbers
pub mod Shapes
pub mod Passed
pub mod Scaffolding
