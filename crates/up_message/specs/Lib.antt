-- The definitions that the contracts cite.
pub mod Digits
pub mod Fields
pub mod Refused
pub mod Joins
pub mod Homes
pub mod Found
pub mod Shapes
