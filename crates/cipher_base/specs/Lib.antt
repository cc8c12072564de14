-- the fields GF(2^8) and GF(2^128)
pub mod Field
-- XTS, of a stretch of blocks
pub mod Xts
-- that XTS keeps units, and that its two directions undo each other
pub mod Laws
-- the words of vc_base that the contracts here cite
pub use Rattle.vc_base.specs.Bytes
pub use Rattle.vc_base.specs.Polynomial
