-- How the matchers go: patterns with their counts written out, rows of marks, sets of offsets and
-- class tests counted. Beside `Scan`, the contracts of private functions alone cite it.
pub mod Beginning
pub mod ClassTests
pub mod Copies
pub mod Counts
pub mod Cutting
pub mod EmptyWord
pub mod Marks
pub mod Offset
pub mod OneClass
pub mod OneWidth
pub mod OnlyWords
pub mod Plain
pub mod Rows
pub mod Search
pub mod Sweeps
