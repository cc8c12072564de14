-- the names of the PRFs
pub mod Prfs
-- HMAC, over either hash
pub mod Hmac
-- PBKDF2, and the keys that a header is deciphered with
pub mod Pbkdf2
-- a derivation that goes by steps
pub mod Derivation
-- what contracts inside the crate cite, and callers don't
pub mod Laws
