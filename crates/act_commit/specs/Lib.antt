pub mod Changes
pub mod Index
pub mod Stages
pub mod Words
