pub mod Within
pub mod Steps
pub mod Reached
pub mod Marks
pub mod Flood
