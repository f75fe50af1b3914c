pub mod Listed
pub mod Items
pub mod Types
pub mod Machine
pub mod Program
pub mod Answers
