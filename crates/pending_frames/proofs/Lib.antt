pub mod Members
pub mod Numbers
pub mod Lists
pub mod Steps
pub mod Kept
pub mod Leaving
pub mod Offers
