-- How an evaluation goes: what is asked at a value, what a walk still reaches, and what is kept
-- between two calls. Beside `Rest`, the contracts of private functions alone cite it.
pub mod Asked
pub mod Asks
pub mod Calls
pub mod Compared
pub mod Due
pub mod LocationSet
pub mod Meanings
pub mod OnlyNode
pub mod PathTrees
pub mod ReadText
pub mod Segments
pub mod Selecting
pub mod Settled
pub mod Singular
pub mod Sizes
pub mod Tally
pub mod Walk
