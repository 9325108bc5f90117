pub mod Fields
pub mod Sessions
pub mod Carried
