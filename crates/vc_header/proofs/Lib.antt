-- the terms of a polynomial reversed: sums, and times x
mod Reflected
-- eight steps of the checksum's register, and the table
mod Steps
-- the polynomial of the bytes, with a byte more
mod Appended
-- the register, byte by byte
mod Register
-- fields read from a body, and the rules as a test
mod Reading
-- the bytes that are written, and that they are read again
mod Writing
