-- The laws of `BlockCipher`: the cipher and the inverse cipher undo each other, and keep blocks blocks.
-- And what private contracts cite.

-- the S-box and its inverse undo each other
pub mod Sbox
-- lists of 4 and of 16 bytes, element by element
pub mod States
-- products of the field of AES
pub mod Field
-- MixColumns and its inverse, on a column
pub mod MixColumns
-- the laws
pub mod Undone
-- eight blocks as bit planes
pub mod Planes
