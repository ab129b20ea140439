-- How a value is made of what the grammar of JSON reads, and faults on the way. The contracts of
-- private functions alone cite it.
pub mod ExactValue
pub mod RangeFault
