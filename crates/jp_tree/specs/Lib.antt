-- The files of definitions.
pub mod Functions
pub mod Singular
pub mod Tree
pub mod Views
