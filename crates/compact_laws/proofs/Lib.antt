pub mod ListsGrown
mod RunsOnSets
mod StepsStand
