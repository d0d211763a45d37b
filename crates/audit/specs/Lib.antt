pub mod Session
pub mod Live
pub mod Cells
pub mod Links
pub mod Rows
pub mod Audit
