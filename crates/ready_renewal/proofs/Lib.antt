pub mod Advanced
pub mod FirstAllowed
pub mod KeptEvents
