-- What contracts inside the crate cite: hashers that have absorbed a key, and how far a derivation is.

-- what two hashers have absorbed of a key
pub mod Absorbed
-- how far a derivation is
pub mod Progress
-- a derivation over either hash
pub mod Works
