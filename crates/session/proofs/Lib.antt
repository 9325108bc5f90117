pub mod Framing
pub mod Digits
pub mod Exact
pub mod Carrying
