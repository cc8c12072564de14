-- sums over lists, one place of which changes
pub mod Sums
-- histories: prefixes, and the entries under a number
pub mod Entries
-- one step changes one view: the rule after it
pub mod Changes
-- draw, look, take, put back and pass on
pub mod Turns
-- a number is given, and a pass is split
pub mod Splitting
-- two passes become one
pub mod Joining
-- the first state, and the last one
pub mod Ends
-- what a turn leaves of a pass, and what is in its slot
pub mod Acting
