pub mod Taking
pub mod Owning
pub mod Parts
pub mod Numbers
pub mod Filtering
