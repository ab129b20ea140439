-- The files of definitions.
pub mod Held
pub mod Portions
