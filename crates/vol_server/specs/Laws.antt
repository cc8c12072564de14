-- What only this crate's own clauses name.

-- shares of several passes, in one unit
pub mod Weights
-- the tasks: once the passes are split, once the sessions have run, once the passes are joined
pub mod Tasks
-- the lists of what became of the clients
pub mod Lists
