pub mod Base
pub mod Search
pub mod Loops
