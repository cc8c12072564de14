-- fragments and their states
pub mod Fragments
-- a core's state
pub mod State
-- what a state stands for
pub mod Sound
-- pending writes by their names
pub mod Named
-- what an event adds to the history
pub mod Entries
-- what only this crate's own clauses name
pub mod Laws
-- what a deposit does to the pending writes
pub mod Deposits
-- what a close does
pub mod Closings
-- what a fetch gives
pub mod Fetches
