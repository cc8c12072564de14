-- the definitions, computed on rows of the standards
pub mod Rows
-- a block XORed with one byte
pub mod Pads
-- digests, and a key as a block
pub mod Keys
-- a block of PBKDF2, step by step
pub mod Steps
-- the bytes of PBKDF2, block by block
pub mod Blocks
