pub mod Layouts
pub mod Histories
