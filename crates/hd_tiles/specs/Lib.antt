-- Definitions that the contracts cite, and the laws of maps in tiles.
pub mod Tile
pub mod Stamps
pub mod Profile
pub mod Origin
