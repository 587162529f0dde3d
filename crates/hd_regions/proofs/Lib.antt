pub mod Sums
mod ValuesDetermined
