pub mod States
pub mod Shown
pub mod Calls
pub mod Follower
pub mod Days
pub mod Law
