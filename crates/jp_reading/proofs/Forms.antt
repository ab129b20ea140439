-- Laws of forms: which texts they have, and what may stand in place of what.
pub mod Bare
pub mod HasForm
pub mod Joining
pub mod Levels
pub mod Same
