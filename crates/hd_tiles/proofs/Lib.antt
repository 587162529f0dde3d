pub mod Inverses
pub mod TilesAlong
pub mod Corners
pub mod Stamping
pub mod ComesFrom
pub mod Profiles
