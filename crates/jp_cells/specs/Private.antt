-- What the contracts of private functions alone cite.
pub mod Limits
pub mod Lists
pub mod Marks
