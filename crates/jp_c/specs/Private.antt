pub mod Askers
pub mod Placing
pub mod Planned
pub mod Spending
pub mod Subjects
