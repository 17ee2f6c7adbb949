pub mod Strings
pub mod Answering
