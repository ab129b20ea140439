-- The files of definitions.
pub mod ChildNodes
pub mod Document
pub mod DocumentValue
pub mod Exact
pub mod Faults
pub mod Laws
pub mod Location
pub mod Node
pub mod NumberTexts
pub mod NumberValue
pub mod OfJson
pub mod Path
pub mod PathFault
pub mod Private
pub mod Spelling
pub mod Text
pub mod Value
