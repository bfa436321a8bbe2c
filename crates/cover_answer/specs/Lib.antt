pub mod Gathering
pub mod Reports
pub mod CoverAnswer
pub mod CoverPromise
pub mod Laws
