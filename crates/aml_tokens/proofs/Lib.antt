mod Examples
mod Fronts
mod Numerals
mod Joined
mod Appended
mod Spaced
mod Placed
mod Printable
mod Told
mod ReadBack
pub mod Alone
mod WrittenBack
