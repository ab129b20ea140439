-- How a document is read into tables, and looked up there. The contracts of private functions alone
-- cite it.
pub mod Bounded
pub mod Escapes
pub mod Found
pub mod FromTokens
pub mod Fronts
pub mod Integer
pub mod Kept
pub mod Keys
pub mod Modes
pub mod NoJson
pub mod Parts
pub mod Reading
pub mod Sorting
pub mod Taken
pub mod Tokens
