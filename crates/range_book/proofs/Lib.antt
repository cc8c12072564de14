-- a relation of all pairs, when one element is put between others
pub mod Pairs
-- ranges in order, with one more and with one less
pub mod Order
-- which range a new one meets
pub mod Meeting
