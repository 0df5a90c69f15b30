mod Replacing
mod PartsStay
mod Outsides
mod Coming
mod Shutting
pub mod LeftAlone
mod UnderWay
mod Telling
mod DevicesStand
mod OutputStands
pub mod FewActs
