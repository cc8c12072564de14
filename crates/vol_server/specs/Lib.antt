-- what a server did: each client's session, the callers' numbers, and the pass afterwards
pub mod Served
-- what only this crate's own clauses name
pub mod Laws
