-- bytes and lists cut into pieces
pub mod Bytes
-- words of 32 bits, and blocks of four
pub mod Words
-- numbers by their bits, and by a test
pub mod Bits
-- polynomials over GF(2), their products and remainders
pub mod Polynomial
-- counts of faults
pub mod Faults
