pub mod Counted
pub mod Printed
pub mod Summed
pub use Rattle.trace_text.specs.decimal_words as decimal_words
pub use Rattle.trace_text.specs as trace_text
