-- the cipher
pub mod Twofish
-- the laws of the cipher
pub mod Laws
