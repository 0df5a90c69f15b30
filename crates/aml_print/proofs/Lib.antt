pub mod PrintingSteps
pub mod PrintingTrees
pub mod PrintingLines
mod PrintingTokens
