mod EventsOf
mod Insertion
mod SourceEvents
pub mod RowsOfArms
