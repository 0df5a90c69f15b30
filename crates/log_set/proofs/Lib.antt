pub mod Placing
pub mod SameKeys
pub mod Durable
pub mod Naming
pub mod Telling
