pub mod WordCounts
pub mod EntryWords
pub mod LongestRow
pub mod ElementWords
