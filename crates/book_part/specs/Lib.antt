pub mod Halves
pub mod Told
pub mod Commits
pub mod After
pub mod Listed
pub use Rattle.order_book.specs as order_book
