pub mod Clients
pub mod Faults
pub mod Hex
pub mod Lines
pub mod Words
