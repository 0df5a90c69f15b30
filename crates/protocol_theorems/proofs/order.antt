-- The order of committed transactions: chains are the order of commits, and the serial run gives the results.
pub mod ArrivesOnce
pub mod ByPlace
pub mod CasesHold
pub mod ChainLists
pub mod ChainsKept
pub mod ExplainedKept
pub mod LastLaw
pub mod NamesKept
pub mod OrderImplied
pub mod OrderLaw
pub mod OwedHolds
pub mod RunsBefore
pub mod SlicesKept
pub mod ViewsExplain
pub mod Worlds
