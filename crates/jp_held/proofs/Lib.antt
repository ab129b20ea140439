-- The files of lemmas. `pub` are those that proofs of other crates may name.
mod Documents
