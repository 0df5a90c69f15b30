-- The book in halves: what an event makes of it, it makes of orders and votes.
pub mod ActWithVotes
pub mod BookEquations
pub mod FitsKept
pub mod HalvesAsked
pub mod HalvesGoOn
pub mod OrdersFit
pub mod VotedActs
