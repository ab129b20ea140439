-- That the rules of queries are as reading them from left to right asks, found by computing.
pub mod Classes
pub mod Conditions
