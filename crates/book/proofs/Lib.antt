mod Fields
mod Kept
mod Live
mod Shown
mod Whole
