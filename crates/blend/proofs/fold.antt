pub mod Counts
pub mod Folds
