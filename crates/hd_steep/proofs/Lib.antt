pub mod LowerOf
pub mod Lows
pub mod Rows
pub mod KeyRows
pub mod Looking
pub mod Ways
pub mod Round
pub mod Linking
mod Linked
pub mod FirstLink
pub mod Following
pub mod Pits
pub mod PitNumbers
mod EndLinks
pub mod Labels
pub mod Numbered
pub mod Once
pub mod Counted
pub mod Seen
mod SeenTo
mod Indexed
mod AreFoundOf
mod Chained
mod Borders
mod PointAt
mod BorderPasses
pub mod Ring
pub mod Marks
pub mod Around
pub mod Heights
pub mod Enough
pub mod Crossed
pub mod NumberedCrossings
pub mod TracedCrossings
mod ShownKeys
mod IndexesRound
mod Descended
mod ListedColumns
mod HasDescended
mod Windows
mod Taken
mod LowerPlaces
pub mod Keys
