pub mod Texts
pub mod Workpiece
pub mod Tiled
pub mod Layout
pub mod Kinds
