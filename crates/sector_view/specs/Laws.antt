-- a block that is turned round: the cipher of the tests
pub mod Turned
