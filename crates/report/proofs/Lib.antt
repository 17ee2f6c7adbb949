pub mod Printing
pub mod Found
