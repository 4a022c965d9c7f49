pub mod Chains
pub mod Formulas
pub mod Meanings
pub mod Runs
