pub mod Service
pub mod Covering
pub mod Chain
