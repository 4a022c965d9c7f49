pub mod Differences
pub mod Faults
pub mod Meanings
pub mod Places
pub mod Streams
pub mod Wholes
