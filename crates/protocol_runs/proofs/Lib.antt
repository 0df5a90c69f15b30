pub mod ExampleFacts
pub mod WorkedRuns
