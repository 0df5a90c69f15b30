pub mod Following
mod SomeWords
