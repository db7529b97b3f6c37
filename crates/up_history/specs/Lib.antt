pub mod Histories
pub mod Rules
