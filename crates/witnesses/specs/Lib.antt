pub mod Strings
pub mod Starred
pub mod Recordings
pub mod Needed
pub mod Writable
pub mod Sets
pub mod Values
