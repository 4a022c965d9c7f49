pub mod Endings
pub mod Tables
pub mod Tallies
