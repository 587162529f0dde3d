pub mod Words
pub mod CommandWords
pub mod Whole
pub mod CommandTable
pub mod Line
pub mod Filters
pub mod Prunings
