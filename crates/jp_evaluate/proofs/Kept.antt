-- Queries that ask only for some members select the same nodes without the others.
pub mod Anywhere
pub mod Filters
pub mod Items
pub mod Members
pub mod Plain
pub mod Queries
pub mod Root
pub mod Together
pub mod Told
