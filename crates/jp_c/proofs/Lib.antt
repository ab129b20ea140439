-- The files of lemmas. `pub` are those that proofs of other crates may name.
mod LentAnswers
mod HeldValues
mod Explaining
mod Outcomes
mod Placed
mod Questions
mod QueriesRead
