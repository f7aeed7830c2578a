pub mod Faults
pub mod Answer
pub mod Rows
