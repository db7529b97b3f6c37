-- The definitions that the contracts cite.
pub mod Content
pub mod Reasons
pub mod Padded
pub mod Asks
pub mod Kept
pub mod Stored
pub mod State
pub mod StateCode
pub mod Details
pub mod Fresh
pub mod Responses
pub mod Refusals
pub mod Decision
pub mod Plans
pub mod Fits
pub mod Views
pub mod Finishing
