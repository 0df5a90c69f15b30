pub mod Following
pub mod FollowingRuns
