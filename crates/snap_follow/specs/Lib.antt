pub mod Followed
pub mod Rounds
pub mod Refusals
pub mod Laws
pub mod Passes
pub mod Finding
pub mod Ordering
