-- The definitions that the contracts cite.
pub mod Limits
pub mod Device
pub mod InMemory
pub mod WireFaults
pub mod Framing
pub mod Chunks
pub mod Message
pub mod Reading
pub mod Steps
pub mod Response
pub mod Shown
pub mod Spooled
pub mod OneAnswer
