pub mod Items
pub mod Gather
pub mod Order
pub mod Points
pub mod DataTypes
pub mod Depth
pub mod Places
pub mod Higher
pub mod Nexts
pub mod Regions
pub mod Least
pub mod Levels
pub mod Through
pub mod Apart
pub mod Decided
pub mod Saddles
pub mod Settings
pub mod Trees
pub mod Prunings
pub mod PositionOrder
pub mod Presences
mod SeenRows
pub mod Ranks
pub mod Lanes
mod Filled
pub mod Sets
pub mod PackedPoints
mod HeightsSet
pub mod EdgePoint
