pub mod Keys
pub mod Stocks
pub mod Plain
pub mod Books
pub mod Calls
pub mod Questions
pub mod Runs
