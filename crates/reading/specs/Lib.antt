pub mod Checked
pub mod Reads
