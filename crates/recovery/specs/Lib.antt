pub mod Places
pub mod Recoveries
