pub mod Days
pub mod Book
pub mod Offers
