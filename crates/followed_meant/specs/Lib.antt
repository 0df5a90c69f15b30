pub mod AsMeant
