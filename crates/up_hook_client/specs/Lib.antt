-- The definitions that the contracts cite.
pub mod Told
pub mod Heard
pub mod Answers
pub mod Chosen
pub mod Judgements
pub mod Posts
