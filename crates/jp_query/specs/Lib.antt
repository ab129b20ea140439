-- The files of definitions.
pub mod Grammar
pub mod Ints
pub mod ComponentSpans
pub mod Components
pub mod Laws
pub mod Levels
pub mod Literals
pub mod Names
pub mod Private
pub mod Refusal
pub mod Slices
pub mod Spelled
pub mod Strings
pub mod ViablePrefix
