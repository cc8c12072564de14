-- bytes taken of a source: heads, payloads, and what ends a session
pub mod Taken
-- the outcome of a request, by what the volume returned
pub mod Outcomes
-- what was written of a reply
pub mod Sent
-- what a session did
pub mod Session
-- what only this crate's own clauses name
pub mod Laws
