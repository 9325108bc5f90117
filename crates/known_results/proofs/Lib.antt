pub mod Computed
pub mod Joined
