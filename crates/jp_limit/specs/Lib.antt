-- The files of definitions.
pub mod OutputLimit
