pub mod InOrder
pub mod SwapRemove
pub mod ByKey
pub mod Machine
pub mod Sorted
pub mod Totals
pub mod Tallied
