pub mod Regions
pub mod Owned
pub mod Lines
pub mod Features
pub mod Values
