-- Array slices: the indexes that they select, position by position, and exactly which.
pub mod Bounds
pub mod Indexes
pub mod Items
pub mod Laws
