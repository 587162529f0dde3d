pub mod Shown
pub mod Residues
pub mod FirstNearer
pub mod Listed
pub mod Routes
