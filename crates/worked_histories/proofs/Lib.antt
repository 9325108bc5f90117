pub mod Opened
pub mod Sources
pub mod Computed
