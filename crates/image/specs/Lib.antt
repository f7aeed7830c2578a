pub mod Image
pub mod Load
pub mod Shared
pub mod Fields
pub mod Head
pub mod Scaffolding
