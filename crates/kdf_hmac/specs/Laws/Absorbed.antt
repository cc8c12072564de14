-- A key that is absorbed once (RFC 2104, section 4). `holds` says what message a hasher has absorbed.
use Rattle.std.specs.Prelude.{ℕ, List}
use Rattle.vc_base.specs.Bytes.{xor_bytes}
use Rattle.kdf_hmac.specs.declared.prf.Prf.{Prf}
use Rattle.kdf_hmac.specs.Hmac.{key_block, ipad, opad}

-- inner and outer have absorbed the key with the inner and with the outer pad
pub record IsKeyed {X : Type 0} (holds : X → List ℕ → Type 0) (prf : Prf) (inner outer : X) (key : List ℕ) : Type 0 where
  pub inside : holds inner (xor_bytes (key_block prf key) (ipad prf))
  pub outside : holds outer (xor_bytes (key_block prf key) (opad prf))
