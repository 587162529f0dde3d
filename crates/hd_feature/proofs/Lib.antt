pub mod ValueBounds
pub mod Cuts
pub mod HeightsAlone
pub mod Values
pub mod WordParts
pub mod PartsWithSum
