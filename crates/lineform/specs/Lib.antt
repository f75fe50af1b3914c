pub mod Signs
pub mod Packed
pub mod Answers
pub mod Writes
pub mod Places
pub mod Blocks
