pub mod Words
pub mod Marks
pub mod Shows
pub mod Stack
