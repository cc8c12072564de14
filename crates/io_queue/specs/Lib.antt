-- what a pass of a volume knows, and what a call adds to it
pub mod Pass
-- the entries of each call, by its result
pub mod Calls
-- what a closed volume leaves
pub mod Closed
-- what only this crate's own clauses name
pub mod Laws
