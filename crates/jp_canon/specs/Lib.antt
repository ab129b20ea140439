-- The files of definitions.
pub mod Canon
pub mod Laws
pub mod NumeralText
pub mod Precedence
