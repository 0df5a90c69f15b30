pub mod Listing
pub mod Owing
pub use Rattle.post_box.specs as post_box
pub use Rattle.hybrid_schedule.specs as hybrid_schedule
pub use Rattle.batch_table.specs as batch_table
pub use Rattle.order_book.specs as order_book
pub use Rattle.book_part.specs as book_part
