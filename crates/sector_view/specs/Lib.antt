-- parts of a buffer that are still to be handed out
pub mod Parts
-- laws of the cipher of the tests
pub mod Laws
-- the definitions of vc_base that the contracts here cite
pub use Rattle.vc_base.specs.Bytes
