pub mod Primitives
pub mod Refusals
