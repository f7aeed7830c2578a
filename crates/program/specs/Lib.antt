pub mod Input
pub mod Run
pub mod Coverage
pub mod Whole
pub mod Scaffolding
