-- The files of definitions.
pub mod Characters
pub mod Forms
pub mod Numbers
pub mod NumberReading
pub mod Outcome
pub mod Rule
pub mod RuleReading
pub mod Sentences
pub mod Texts
pub mod Views
