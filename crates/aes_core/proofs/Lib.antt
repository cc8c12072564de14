-- circuits of gates, on planes and on bits
pub mod Gates
-- circuits on planes
pub mod OnPlanes
-- the circuits of the S-box and of its inverse
pub mod Box
pub mod InverseBox
-- the circuits of the products by 2 and by 4
pub mod Doubling
-- moves of lanes
pub mod Moves
-- MixColumns and its inverse, from sums and moves
pub mod Mixing
-- the transposition of eight rows
pub mod Exchanges
-- groups of eight blocks
pub mod EightBlocks
-- the planes of the round keys
pub mod KeyPlanes
-- the key schedule, word by word
pub mod Words
-- the rounds, one after the other
pub mod RoundByRound
