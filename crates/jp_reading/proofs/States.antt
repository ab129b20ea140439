-- What reading does between two states of a reader.
pub mod Again
pub mod Between
pub mod Fits
pub mod Folds
pub mod Locality
pub mod Loops
pub mod Progress
pub mod Steps
pub mod Stopping
