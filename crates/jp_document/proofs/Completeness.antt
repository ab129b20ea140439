-- Each path is taken by the rules of paths: for the texts that `read_path` refuses.
pub mod Names
pub mod Paths
