pub mod Laws
pub mod Located
pub mod Texts
