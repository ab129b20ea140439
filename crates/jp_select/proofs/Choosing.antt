-- What selectors choose from, and the nodes that they select.
pub mod Entries
pub mod Nodes
