pub mod Calls
pub mod Plain
pub mod Runs
pub mod Standing
pub mod Words
