pub mod Generated
pub use Rattle.work_text.specs as work_text
