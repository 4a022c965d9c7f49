pub mod Changes
pub mod Checks
pub mod Decisions
pub mod Firsts
pub mod Fresh
pub mod Lists
pub mod Refusals
