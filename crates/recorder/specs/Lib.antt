pub mod Refusals
pub mod Sessions
pub mod Writing
