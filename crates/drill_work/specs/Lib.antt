-- the volume of a drill, and its summary
pub mod Summary
-- what only this crate's own clauses name
pub mod Laws
