-- The files of definitions.
pub mod Asked
pub mod Cost
pub mod Functions
pub mod Laws
pub mod Lent
pub mod Named
pub mod Nodelist
pub mod NodelistLaws
pub mod Patterns
pub mod Plan
pub mod Private
pub mod Rest
pub mod Stopping
