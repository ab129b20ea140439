-- Members of objects, whose names rise: found by a name, and with one member more.
pub mod ByName
pub mod Inserting
pub mod TextNames
