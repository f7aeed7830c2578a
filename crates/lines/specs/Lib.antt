pub mod Digit
pub mod Line
pub mod Put
pub mod Report
pub mod Stream
pub mod Scaffolding
