pub mod Pages
pub mod Rows
pub mod Regions
pub mod Memory
pub mod Make
pub mod Undo
pub mod Copies
