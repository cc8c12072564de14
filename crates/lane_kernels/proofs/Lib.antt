-- nibbles by their four bits
pub mod Nibbles
-- boxes on states
pub mod Substituted
-- what the cipher makes is blocks
pub mod Blocks
-- words, as the code reads and writes them
pub mod WordByWord
-- vectors of eight words, lane by lane
pub mod LaneByLane
-- formulas on one state and on eight
pub mod Formula
-- the formulas of the boxes, held against their tables
pub mod Boxes
-- the formulas of the linear transformation
pub mod Mixing
-- the rounds, one after the other, as the code counts them
pub mod RoundByRound
-- eight blocks that spell eight states
pub mod Groups
