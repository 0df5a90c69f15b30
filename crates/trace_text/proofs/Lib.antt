pub mod EventNames
pub mod Cuts
pub mod Events
pub mod Traces
