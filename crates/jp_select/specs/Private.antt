-- How values are compared, which the contracts of private functions alone cite.
pub mod Parts
