pub mod Growing
pub mod Methods
pub mod Plain
pub mod Asked
pub mod Ranges
pub mod Tails
pub mod Works
pub mod NextWords
