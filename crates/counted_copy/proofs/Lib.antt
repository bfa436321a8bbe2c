pub mod Uncounted
pub mod Room
pub mod CountedSteps
pub mod CountedProcesses
pub mod Tests
