-- What the forms of the grammar have, the reading functions take: for `only` of `read_pattern`, and
-- for the law that a text spells one pattern.
pub mod Characters
pub mod Classes
pub mod Patterns
pub mod Quantifiers
