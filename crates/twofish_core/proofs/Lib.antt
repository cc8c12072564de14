-- the tables of the code
pub mod Tables
-- tables that are filled from their first entry on
pub mod Entries
-- the functions h and g, a byte at a time
pub mod ByBytes
-- rows times columns
pub mod Parts
-- sums and rounds, as the code goes through them
pub mod Steps
-- blocks in pairs
pub mod Pairs
