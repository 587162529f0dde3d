pub mod Access
pub mod Causes
pub mod Faults
pub mod Told
pub mod Adapters
pub mod MemSource
pub mod MemSink
