pub mod Located
pub mod Passes
pub mod Linears
