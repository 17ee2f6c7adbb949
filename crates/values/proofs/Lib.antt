pub mod Digits
pub mod Product
pub mod Fields
