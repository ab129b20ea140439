-- What is true of every rule, each fact by one induction.
pub mod Progress
pub mod LevelsMonotone
pub mod Locality
pub mod Ranges
pub mod Classes
pub mod Form
pub mod Soundness
pub mod Follow
pub mod Completeness
pub mod Rounds
