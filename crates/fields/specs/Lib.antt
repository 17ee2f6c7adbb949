pub mod Decoded
pub mod Coded
