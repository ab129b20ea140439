-- The files of definitions.
pub mod Caret
pub mod First
pub mod Paths
