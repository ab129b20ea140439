-- What the contracts of private functions alone cite: what words ask for, lines written as nodes are found, the front
-- of paths, what a line shows of a node, and how runs end and what they keep where they stop.
pub mod AsFound
pub mod Asked
pub mod Ended
pub mod Faults
pub mod Firsts
pub mod Fronts
pub mod Kept
pub mod Showing
pub mod Shown
