pub mod Laws
pub mod Places
pub mod Walks
pub mod Gives
pub mod Inputs
pub mod Unique
pub mod Examples
