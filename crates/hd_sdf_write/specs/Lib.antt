pub mod Canonical
pub mod Data
pub mod Pieces
pub mod Texts
