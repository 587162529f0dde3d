pub mod Lines
pub mod Places
pub mod FirstJoins
pub mod NumberedBorders
pub mod Listed
