-- What the reading functions take, the forms of the grammar have: for `found` of `read_pattern`.
pub mod Characters
pub mod Classes
pub mod Patterns
pub mod Quantifiers
