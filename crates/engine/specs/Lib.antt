pub mod Steps
pub mod Feeding
pub mod Showing
pub mod Finding
pub mod Promises
