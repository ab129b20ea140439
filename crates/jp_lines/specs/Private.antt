-- What the contracts of private functions alone cite: what one line comes to, how chunks are
-- gone through, and what is told of a run that stopped.
pub mod Answers
pub mod Limits
pub mod Halting
pub mod Opening
pub mod Passing
pub mod Treating
pub mod Asking
pub mod Telling
