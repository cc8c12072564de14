-- what a core's fields always keep
pub mod Invariant
-- a pending write whose fragment got a new state
pub mod Marked
-- what became of a fragment that was written
pub mod Sealed
-- what the fragments of a write come to
pub mod StateOf
