pub mod Bodies
pub mod Durable
pub mod Meets
pub mod Plays
pub mod Promised
