-- The files of lemmas. `pub` are those that proofs of other crates may name.
pub mod EqualParts
pub mod EqualTrees
pub mod FunctionNames
pub mod Trees
pub mod Views
