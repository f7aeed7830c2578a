pub mod Lowered
pub mod Primitives
pub mod Calls
pub mod Promises
pub mod Counting
pub mod Areas
