pub mod Shape
pub mod Layout
