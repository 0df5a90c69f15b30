pub mod CoreRuns
pub mod Together
pub mod InOrder
pub mod FewBatches
pub mod Falling
