-- How queries are read: the rules of the reader, and what its parts answer on the way. The
-- contracts of private functions alone cite it.
pub mod HexDigits
pub mod NameCharacters
pub mod Numerals
pub mod Parsed
pub mod Parts
pub mod Reading
pub mod Rules
pub mod Stops
