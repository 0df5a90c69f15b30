pub mod LastLines
pub mod OneFault
mod SerialInputs
