-- the algorithms, their numbers, names and ciphers
pub mod Algorithms
