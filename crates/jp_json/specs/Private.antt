pub mod Fronts
pub mod Machine
pub mod Parts
pub mod Reading
pub mod Reasons
pub mod Runs
pub mod Strings
