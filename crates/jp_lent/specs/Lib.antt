-- The files of definitions.
pub mod Lending
pub mod Raw
pub mod Private
