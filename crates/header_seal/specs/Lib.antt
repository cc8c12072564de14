-- a header under a password
pub mod Sealed
-- the candidates of a kind, and the first valid one
pub mod Candidates
