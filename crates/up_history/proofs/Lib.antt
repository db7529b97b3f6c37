pub mod Beginnings
pub mod Meeting
pub mod Adding
pub mod Following
