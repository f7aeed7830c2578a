pub mod Tables
pub mod Linears
pub mod Kinds
pub mod Records
pub mod Coverage
pub mod Counting
pub mod Scaffolding
