pub mod Lines
pub mod Traces
pub mod Reads
pub use Rattle.decimal_words.specs as decimal_words
