pub mod Views
pub mod Words
pub mod Rule
pub mod Plays
pub mod Kept
pub mod Opening
pub mod Seats
