pub mod Made
pub mod Write
pub mod Scaffolding
