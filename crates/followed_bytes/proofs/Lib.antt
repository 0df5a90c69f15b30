mod Lists
mod OneLog
pub mod Readings
pub mod Alone
pub mod Rounds
pub mod Looks
pub mod Series
pub mod NextOn
