-- The definitions that the contracts cite.
pub mod HeaderFaults
pub mod Words
pub mod Metadata
pub mod Reading
pub mod Rows
pub mod Fields
pub mod Verbs
pub mod Places
pub mod Concat
pub mod Patches
pub mod Creations
pub mod Table
pub mod Steps
