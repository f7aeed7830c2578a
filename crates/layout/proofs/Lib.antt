pub mod Totals
pub mod Walks
pub mod Layouts
pub mod Removals
