pub mod Stacks
pub mod Tones
