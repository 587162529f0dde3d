mod EditAnswers
mod KeepsUp
mod NamedSums
mod Positions
mod Served
