pub mod Answers
pub mod Audits
pub mod Compactions
pub mod Followings
pub mod Migrations
pub mod Outcomes
pub mod Recoveries
pub mod Uses
