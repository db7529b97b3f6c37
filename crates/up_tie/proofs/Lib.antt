pub mod Spans
pub mod Batches
