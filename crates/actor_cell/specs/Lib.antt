pub mod Calls
pub mod Cut
pub mod Keeping
pub mod Lending
