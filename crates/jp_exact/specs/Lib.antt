-- The files of definitions.
pub mod Defects
pub mod Laws
pub mod Private
