pub mod Names
pub mod Heights
pub mod Sums
pub mod Gathering
pub mod Distribution
pub mod Fill
pub mod Volumes
