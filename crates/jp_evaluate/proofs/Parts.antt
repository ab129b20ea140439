-- The parts of queries and values, one layer at a time.
pub mod Arguments
pub mod Counted
pub mod Lengths
pub mod Sizes
pub mod Texts
