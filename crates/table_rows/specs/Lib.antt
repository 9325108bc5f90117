pub mod Directories
pub mod Keys
