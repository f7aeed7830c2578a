pub mod Blend
pub mod Scaffolding
