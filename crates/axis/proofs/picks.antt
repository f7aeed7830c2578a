pub mod Steps
pub mod Laws
pub mod Nodes
pub mod Picks
