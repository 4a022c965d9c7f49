pub mod Echoing
pub mod Outputs
pub mod Peeling
mod Tables
