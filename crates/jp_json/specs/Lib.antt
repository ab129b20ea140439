-- The files of definitions.
pub mod Grammar
pub mod Language
pub mod Laws
pub mod Misreading
pub mod Names
pub mod Place
pub mod Told
pub mod ViablePrefix
pub mod Private
