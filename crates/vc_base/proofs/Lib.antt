-- XOR as the sum of polynomials
pub mod Xor
-- the remainder of a polynomial is the one that division leaves
pub mod Remainders
-- the product modulo m: Horner's rule, linearity, times x
pub mod Products
-- lists in pieces of one length
pub mod Pieces
-- lists of bytes, and the numbers that they spell
pub mod Bytes
-- remainders of long polynomials: sums, times x^k, one more byte of a message
pub mod LongRemainders
-- integers of 32 and 64 bits and their bytes
pub mod Words
-- lists of four words, and the blocks that spell them
pub mod FourWords
-- two functions that agree at each number below a limit, by computing
pub mod EachNumber
-- numbers by their bits, and by a test
pub mod Bits
-- a list in the chunks that the code takes
pub mod Chunks
-- the XOR of two lists of bytes
pub mod XorBytes
