-- a loop over the pieces of a list
pub mod Loops
-- times x in GF(2^128)
pub mod Doubling
-- sixteen bytes as two words
pub mod Words
-- XTS of a stretch, and numbers that are enciphered together
pub mod Stretches
-- the product of two bytes, bit by bit
pub mod Multiplying
-- the first tweaks of units, in groups
pub mod Groups
-- blocks in groups of eight
pub mod ByGroups
