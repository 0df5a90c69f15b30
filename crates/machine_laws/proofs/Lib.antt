pub mod AsMany
pub mod AsMeant
pub mod Instances
pub mod RestsMeant
pub mod TextTxs
pub mod ToldMeant
pub mod Naming
pub mod Askings
pub mod MachineFacts
pub mod Executions
pub use Rattle.protocol_theorems.proofs as protocol_theorems
