-- The files of definitions.
pub mod Asked
pub mod Flat
pub mod FlatValue
pub mod Private
pub mod Room
