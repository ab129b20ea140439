-- The files of definitions.
pub mod Accepted
pub mod Checked
pub mod Faults
pub mod First
pub mod Functions
pub mod Laws
pub mod Numbers
pub mod Private
pub mod Ranges
pub mod Refused
pub mod Types
