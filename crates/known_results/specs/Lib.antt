pub mod Table
pub mod Joins
