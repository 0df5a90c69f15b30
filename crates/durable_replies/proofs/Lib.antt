pub mod Answered
pub mod Crashing
pub mod Durable
pub mod Goings
pub mod Lines
pub mod OneReply
pub mod Printed
pub mod Promised
