-- What nodelists hold.
pub mod Along
pub mod Anywhere
pub mod Beyond
pub mod Elements
pub mod Joined
pub mod Meanings
pub mod Only
pub mod Repeats
pub mod Sets
pub mod Sides
pub mod Standing
pub mod Steps
