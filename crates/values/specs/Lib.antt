pub mod Tests
pub mod Layout
pub mod Operations
pub mod Refs
pub mod Binding
pub mod Stepping
pub mod Reporting
