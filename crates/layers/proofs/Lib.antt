pub mod Places
pub mod Acting
pub mod Tallying
pub mod Meeting
pub mod Listing
pub mod Limits
pub mod Renaming
