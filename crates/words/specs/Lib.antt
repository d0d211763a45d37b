pub mod Fields
pub mod Integers
pub mod Words
pub mod Steps
pub mod Answers
pub mod Fit
pub mod Clip
pub mod Exact
