pub mod OnRecords
