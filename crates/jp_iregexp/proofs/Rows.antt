-- The definitions, computed at worked values.
mod Classes
mod Matches
mod Membership
mod PatternOf
mod Patterns
