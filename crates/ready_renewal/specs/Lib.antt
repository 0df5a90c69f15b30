pub mod Asked
pub mod Covering
pub use Rattle.ready_news.specs as ready_news
