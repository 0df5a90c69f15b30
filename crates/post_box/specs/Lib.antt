pub mod Order
pub mod Messages
pub mod Kept
pub mod PostBox
pub mod Shown
pub mod Posting
pub mod Listed
pub mod Tally
