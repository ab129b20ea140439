-- The files of lemmas. `pub` are those that proofs of other crates may name.
pub mod Alone
pub mod Calls
pub mod Extended
pub mod Filters
pub mod FunctionNames
pub mod Least
pub mod OwnFault
pub mod OwnText
pub mod Rows
pub mod Segments
pub mod PastComponents
