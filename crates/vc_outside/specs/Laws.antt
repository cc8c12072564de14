-- the moments of a record
pub mod Moments
-- how a store over memory keeps its record
pub mod Log
-- what always holds of its bytes and its record
pub mod Invariant
