mod Labels
mod Extents
mod Presences
mod ByIndex
mod Touched
pub mod Following
