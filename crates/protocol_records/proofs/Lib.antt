pub mod crash
pub mod recording
