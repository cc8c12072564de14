-- the open writes of one caller are those of its own entries
pub mod OwnWrites
-- a pass after a turn, and after several
pub mod Passes
-- the events of the core as acts
pub mod Acting
-- units are below 2^55
pub mod Within
-- what a closed volume leaves
pub mod Closing
-- the end of a write
pub mod Ending
-- whether a write was refused
pub mod Judging
-- the jobs of a write, and its bench
mod Fragments
