-- The rules take exactly the texts that the grammar says.
pub mod Strings
pub mod Numbers
pub mod Slices
pub mod Selectors
pub mod FunctionNames
pub mod Expressions
pub mod Arguments
