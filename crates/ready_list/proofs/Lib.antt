pub mod AmongRings
pub mod FirstNumbers
pub mod Gaps
pub mod OneEvent
pub mod Reaches
pub mod Roomed
