-- units that are deciphered in two halves
pub mod Halves
