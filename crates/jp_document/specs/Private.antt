-- How documents and paths are read: faults on the way, and the rules of paths. The contracts of
-- private functions alone cite it.
pub mod JsonText
pub mod PathReading
pub mod PathRules
pub mod ValueFault
