pub mod Marks
pub mod Modelled
pub mod Model
pub mod Steps
pub mod Law
