-- What the rules of paths take is a path: for the locations that `read_path` answers.
pub mod Names
pub mod Paths
