-- the bytes of options and their replies
pub mod Wire
-- options, and how each is answered
pub mod Options
-- what a handshake does with a client's bytes
pub mod Hand
-- what only this crate's own clauses name
pub mod Laws
