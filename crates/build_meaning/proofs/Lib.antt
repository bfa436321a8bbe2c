pub mod FilesRuns
pub mod BuiltRuns
