-- The files of definitions.
pub mod Bounds
pub mod Part
pub mod Scan
pub mod Private
