-- The files of definitions.
pub mod Explanation
pub mod Laws
pub mod Place
pub mod Private
pub mod Shown
pub mod Suggestion
