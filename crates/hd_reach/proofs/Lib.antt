pub mod Flooding
pub mod Paths
pub mod ReachedBelow
