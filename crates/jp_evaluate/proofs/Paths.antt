-- The path of a node as a query.
pub mod CanonicalPaths
pub mod LocationLaws
pub mod NamedSteps
pub mod PathTrees
pub mod Steps
