pub mod Accepted
pub mod Calls
pub mod Decided
pub mod Equal
pub mod Listed
