pub mod Held
pub mod Opening
pub mod Reading
