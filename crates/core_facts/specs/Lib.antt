pub mod RowsMay
