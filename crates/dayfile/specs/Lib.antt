pub mod Blocks
pub mod Cursors
pub mod Looks
