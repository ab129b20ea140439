-- The files of lemmas. `pub` are those that proofs of other crates may name.
pub mod Ascii
pub mod Cuts
pub mod FromEnd
pub mod Signs
