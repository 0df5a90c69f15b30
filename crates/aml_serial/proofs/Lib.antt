pub mod SerialLists
pub mod PuttingBack
pub mod Slices
