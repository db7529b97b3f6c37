pub mod Spelling
pub mod Reading
pub mod Blocks
pub mod Logs
pub mod Staging
pub mod Held
