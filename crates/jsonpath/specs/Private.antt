-- What the contracts of private functions alone cite: how faults are carried over, and which there are.
pub mod Faults
