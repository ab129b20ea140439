-- A scan over a text: for the scan and the matcher of positions.
pub mod Cutting
pub mod OneWidth
pub mod OnlyWords
pub mod Prefixes
pub mod Scanning
