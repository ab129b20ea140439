-- Sets of offsets in a text: for the plain matcher.
pub mod Cuts
pub mod Growing
pub mod Reaching
pub mod Repeats
pub mod Rowwise
pub mod Searching
pub mod Shift
pub mod Spans
pub mod WholeAndPart
