pub mod File
pub mod Words
pub mod Digits
pub mod Text
pub mod Pasting
pub mod Printed
