mod PlayingInto
mod SettingsText
mod Handing
mod Wanting
