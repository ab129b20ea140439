-- What `serde_json` reads from bytes is one document, or has one defect: for `parsed_value` and
-- the law `document_or_defect`.
pub mod Above
pub mod Conversion
pub mod Defects
pub mod Faults
pub mod Fractions
pub mod Holdings
pub mod ListsFit
pub mod Ranges
pub mod Whole
