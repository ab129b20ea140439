-- The files of definitions.
pub mod Cells
pub mod Fields
pub mod Rows
pub mod Columns
pub mod Limits
pub mod Private
