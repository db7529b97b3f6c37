-- The lemmas.
mod Results
pub mod Below
pub mod InTurn
pub mod Removals
pub mod Turns
