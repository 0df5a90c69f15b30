pub mod Firsts
pub mod Keys
pub mod Logs
pub mod Told
pub mod Items
pub mod Laws
pub mod Shown
