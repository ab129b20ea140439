-- What is printed and copied of parts, which the contracts of private functions alone cite.
pub mod Copying
pub mod Printing
