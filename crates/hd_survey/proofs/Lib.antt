pub mod Lists
mod Inside
pub mod Given
mod EdgePoints
pub mod HeightRanges
pub mod EdgeHeights
pub mod Members
mod ByRoots
mod Sums
pub mod Found
pub mod RootedPoints
mod Counts
pub mod MapPits
mod RegionSizes
mod PitLinks
mod LowerRanks
mod PrunedPits
mod FeaturePoints
mod Numbers
mod Tallying
mod RegionTallies
mod PlacedTallies
pub mod OwnedTallies
mod KeptPlaces
mod Owning
mod FeatureLists
mod FeatureNeeds
mod PrunedLines
pub mod MapMerges
mod ReachedBelow
