-- the cipher
pub mod Aes
-- the laws of the cipher
pub mod Laws
