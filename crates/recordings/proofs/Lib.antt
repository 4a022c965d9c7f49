pub mod Places
pub mod Reading
pub mod Tests
pub mod Walks
