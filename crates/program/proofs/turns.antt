pub mod Shifts
pub mod Turning
pub mod Unique
pub mod Kept
