pub mod Readings
pub mod Rounds
pub mod Followed
pub mod Steps
pub mod FollowLaws
pub use Rattle.log_opening.specs as log_opening
pub use Rattle.log_reading.specs as log_reading
pub use Rattle.snap_follow.specs as snap_follow
