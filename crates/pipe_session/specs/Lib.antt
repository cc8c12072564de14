-- requests in waves
pub mod Waves
-- what passes tell one another
pub mod Meeting
-- shares of several passes, in one unit
pub mod Shares
-- what a session in waves did
pub mod ToldPipe
-- what only this crate's own clauses name
pub mod Laws
