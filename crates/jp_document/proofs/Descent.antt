-- What stands one step inside a value, and where: for the calls that go from a value or a node to
-- its children, and for the law `children_are_exact`.
pub mod Entries
pub mod Exact
pub mod Inside
pub mod Items
pub mod Steps
pub mod Nodes
