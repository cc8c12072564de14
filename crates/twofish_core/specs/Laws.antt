-- The laws of `BlockCipher`: the cipher and its inverse undo each other, and keep blocks blocks. And
-- what private contracts alone cite.

-- words, their rotations, and blocks of four words
pub mod Words
-- the laws
pub mod Undone
-- what one byte of a word adds to h and g
pub mod Columns
