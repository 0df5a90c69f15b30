pub mod Moments
pub mod OnDevices
mod OneSet
mod OneGenesis
mod OneFront
mod UsedLogs
mod PlainFolds
mod FoldShapes
mod FoldRefusals
mod Begun
mod WithoutPoint
pub mod ReadFronts
mod FoundSets
mod FirstStrays
mod Counting
