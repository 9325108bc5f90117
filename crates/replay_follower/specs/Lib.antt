pub mod Captures
pub mod Sources
pub mod Words
