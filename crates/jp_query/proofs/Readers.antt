-- What the proofs of the reading functions rest on: what is read, step by step as the code does.
pub mod ArgumentParts
pub mod Exits
pub mod HexKinds
pub mod Integers
pub mod Openings
pub mod Rounds
