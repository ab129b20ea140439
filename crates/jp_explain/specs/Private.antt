pub mod Attempts
pub mod Classes
pub mod FromEnd
pub mod Marks
pub mod Pieces
