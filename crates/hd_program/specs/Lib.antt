pub mod Status
pub mod Texts
pub mod Outcome
pub mod WorkOrder
pub mod Ending
