-- The laws of `BlockCipher`: the cipher and its inverse undo each other.

-- the linear transformation and its inverse
pub mod Linear
-- the laws
pub mod Undone
