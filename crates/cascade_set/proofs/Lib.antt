-- each layer is lawful, and so are three in turn
pub mod Lawful
-- an algorithm's cascade is its layers in turn
pub mod InTurn
-- a stretch under its masks, and the numbers of units
pub mod Stretches
-- the first tweaks of 8 units at a time
pub mod Groups
-- only the first 64 bytes of material for each cipher count
pub mod Material
