pub mod Alike
pub mod Answering
pub mod Coming
pub mod Counting
pub mod Lengths
pub mod Lines
pub mod Timing
pub mod Writing
