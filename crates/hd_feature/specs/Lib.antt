pub mod Cut
pub mod HeightsAlone
pub mod Notation
pub mod Names
pub mod Parameters
pub mod Parts
pub mod Value
