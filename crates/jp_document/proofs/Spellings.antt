-- How names and indexes are spelled in paths: for what reads and what writes them.
pub mod Blocks
pub mod Characters
pub mod Encoded
pub mod Indexes
