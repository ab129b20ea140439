-- The canonical text of a tree spells it, rule by rule: for the laws.
pub mod FunctionNames
pub mod Grouping
pub mod Induction
pub mod Literals
pub mod Rules
