pub mod Shorter
pub mod Surveys
pub mod Writing
pub mod Heads
