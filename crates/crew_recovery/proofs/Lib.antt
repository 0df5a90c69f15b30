pub mod LinesTold
pub mod StepsRecovered
pub mod EndsRecovered
