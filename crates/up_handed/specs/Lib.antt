pub mod OnDisk
pub mod Faults
pub mod Counts
pub mod Continues
pub mod Notes
pub mod Openings
pub mod Withholds
