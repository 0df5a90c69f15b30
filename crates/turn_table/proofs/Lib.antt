pub mod ByPlace
mod Sums
mod Histories
mod Apart
mod Changes
mod TakeStep
mod TurnSteps
mod RecordStep
mod Seats
mod Ends
mod Later
mod Gathering
mod Calls
mod Placing
