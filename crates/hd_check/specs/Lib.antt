pub mod Judged
pub mod Certified
pub mod Rules
pub mod Text
pub mod Reading
pub mod Places
pub mod Writable
pub mod Profiles
