-- What only this crate's own clauses name.

-- the lanes of a session when their passes meet
pub mod Lanes
-- a wave, as it is taken into the lanes
pub mod Taking
-- replies, written one after another
pub mod Sending
-- what a session in waves did so far
pub mod Waved
-- the lanes of a wave, once it has run
pub mod Running
