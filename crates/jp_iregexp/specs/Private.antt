-- How patterns are read: the functions of states that the contracts of private functions cite.
pub mod CodeReading
pub mod Reading
