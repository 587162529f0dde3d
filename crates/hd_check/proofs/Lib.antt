-- hd_cert, which makes certificates, cites these, and hd_audit, which has certificates of another kind
pub mod Searching
pub mod Paths
pub mod Pits
pub mod AppendedTexts
pub mod Determined
pub mod ReadsBack
mod ReadingSteps
mod ConsecutivePairs
mod Leaks
mod Verdicts
mod ClosedCuts
mod IsRight
mod TextParts
