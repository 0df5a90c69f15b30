pub mod Owing
pub mod PartsEnough
pub mod RunsEnough
