-- The files of definitions.
pub mod Subtree
pub mod Comparable
pub mod Comparison
pub mod Equality
pub mod Giving
pub mod Laws
pub mod Private
pub mod Selectors
pub mod Slice
pub mod Steps
pub mod Walk
