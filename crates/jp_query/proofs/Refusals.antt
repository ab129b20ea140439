-- Where a text is refused, and why.
pub mod LevelsMonotone
pub mod Locality
pub mod Places
pub mod Refused
