pub mod Reports
pub mod Outcomes
pub mod Playing
pub mod Replaying
pub mod Texts
