-- What a normalized path says of its location: for `read_path` and the law `paths_differ`.
pub mod Conditions
pub mod Differ
pub mod IndexReading
pub mod LargeIndexes
pub mod Progress
pub mod WholeTexts
