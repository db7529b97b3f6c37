-- The definitions that the contracts cite.
pub mod Verdicts
pub mod MayAnswer
pub mod MayAnswerRequest
pub mod Recorded
pub mod Waiting
pub mod Couriers
