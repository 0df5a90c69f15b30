pub mod Answered
pub mod AtFault
pub mod Called
pub mod CrewHosting
pub mod Ending
pub mod Hosting
pub mod OnDevices
pub mod Replied
pub mod RunDevices
pub use Rattle.run_printing.proofs as run_printing
