pub mod Adding
pub mod Lists
pub mod Told
pub mod Parts
pub mod Books
pub mod Picking
pub mod Whole
