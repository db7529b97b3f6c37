-- The definitions that the contracts cite.
pub mod Blocks
pub mod Failures
pub mod Heads
pub mod Notes
pub mod Shelves
