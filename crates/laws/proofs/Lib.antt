pub mod Tests
pub mod Lists
pub mod Search
pub mod Scan
pub mod Turns
pub mod Stores
pub mod Options
pub mod Conditions
