pub mod Counting
pub mod Keeping
pub mod Loading
pub mod Mending
pub mod Turns
