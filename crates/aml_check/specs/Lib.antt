pub mod Names
pub mod Closed
pub mod Meaning
pub mod Transactions
pub mod Checked
