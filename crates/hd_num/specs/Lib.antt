pub mod Decimal
pub mod Frac
pub mod Lines
pub mod Percent
pub mod Span
pub mod Steps
pub mod Text
pub mod Whole
