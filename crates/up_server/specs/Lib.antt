-- The definitions that the contracts cite.
pub mod Seats
pub mod Said
pub mod Shards
pub mod ReportText
pub mod Written
pub mod Reported
pub mod Run
