pub mod Utils
pub mod Strategies
pub mod Scaffolding
