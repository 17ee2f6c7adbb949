pub mod Decoding
pub mod Holding
pub mod Coding
