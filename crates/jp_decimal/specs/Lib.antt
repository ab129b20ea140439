-- The files of definitions.
pub mod Appended
pub mod Grammar
pub mod Laws
pub mod NormalForm
pub mod Number
pub mod NumberText
pub mod Private
pub mod Scaled
pub mod TextValue
