pub mod Links
pub mod Passes
pub mod Unturned
pub mod UndoPasses
pub mod UndoWhole
