pub mod Blends
