-- A step of a scan: for the functions that move marks over a character or look where they end.
pub mod Copies
pub mod EmptyWords
pub mod EndParts
pub mod Idle
pub mod Kept
pub mod OneClass
pub mod Repeating
pub mod Rounding
pub mod Sizes
pub mod StepParts
pub mod Unrolled
pub mod Sweeping
pub mod Whole
