pub mod Back
pub mod Filling
pub mod Overwriting
pub mod Rewriting
pub mod Sessions
