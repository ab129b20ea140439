-- What a loop has written beside what is to come: for the texts of paths and of values.
pub mod Appended
pub mod Runs
