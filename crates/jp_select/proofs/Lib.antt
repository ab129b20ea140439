-- The files of lemmas. `pub` are those that proofs of other crates may name.
pub mod Choosing
pub mod Chosen
pub mod Comparisons
pub mod Items
pub mod Locations
pub mod Rising
pub mod Rows
pub mod Slices
pub mod Walks
pub mod Stepping
