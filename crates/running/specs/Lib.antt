pub mod Rows
pub mod Runners
