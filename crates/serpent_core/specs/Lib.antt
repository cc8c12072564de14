-- the cipher
pub mod Serpent
-- the laws of the cipher
pub mod Laws
