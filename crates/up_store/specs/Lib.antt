-- The definitions that the contracts cite.
pub mod Failures
pub mod Lines
pub mod Permits
pub mod StoredCommits
pub mod Told
