pub mod Steps
pub mod Loops
