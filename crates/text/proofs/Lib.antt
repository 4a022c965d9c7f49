pub mod Carrying
pub mod Passing
pub mod Rows
pub mod SettingRows
pub mod Splitting
mod Answered
pub mod Words
