pub mod Numerals
pub mod Writing
pub mod Worked
