pub mod Listed
pub mod Chosen
pub mod Offers
pub use Rattle.ready_list.specs as ready_list
