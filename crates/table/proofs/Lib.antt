pub mod Laws
mod Searches
mod Seats
mod Shifts
