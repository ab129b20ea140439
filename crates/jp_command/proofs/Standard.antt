-- The examples of RFC 9535's tables, by section: a query's text, a document's text, and the lines
-- that the definitions give, computed. A wrong definition fails here, whatever the code does. Where
-- the standard leaves the order of members open, they come in the order of their names.
pub mod ChildSegments
pub mod Comparisons
pub mod Computed
pub mod DescendantSegments
pub mod Filters
pub mod Functions
pub mod Indexes
pub mod Names
pub mod Null
pub mod Paths
pub mod Root
pub mod Slices
pub mod Wildcards
