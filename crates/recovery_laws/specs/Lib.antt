pub mod Grown
pub mod Joined
