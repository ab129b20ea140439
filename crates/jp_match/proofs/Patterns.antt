-- What patterns are made of: for every function that goes down a pattern.
pub mod Items
pub mod Variants
