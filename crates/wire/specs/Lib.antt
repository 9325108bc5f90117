pub mod Answers
pub mod Fields
pub mod Numbers
pub mod Names
pub mod Limits
pub mod Messages
pub mod Frames
pub mod Packets
