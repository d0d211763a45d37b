pub mod Deref
pub mod Build
pub mod Destruct
pub mod Unify
pub mod Took
pub mod Eager
