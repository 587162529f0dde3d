pub mod GivenWords
pub mod Limits
pub mod Demo
pub mod Requests
pub mod Forms
pub mod WordSteps
pub mod CommandLines
