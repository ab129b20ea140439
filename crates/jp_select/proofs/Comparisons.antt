-- How values compare.
pub mod EqualValues
pub mod Parts
pub mod Sameness
pub mod TextOrder
