-- Definitions that the contracts cite.
pub mod Told
pub mod Outlay
pub mod Following
pub mod View
pub mod ByIndex
