pub mod Reports
pub mod Examples
pub mod Unique
