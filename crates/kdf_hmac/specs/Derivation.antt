-- A derivation of 192 bytes by PBKDF2 (RFC 8018, section 5.2) that goes by steps. A step is one U_j of one
-- block T_i. left says how many steps are left.
use Rattle.std.specs.Prelude.{ℕ, List}
use Rattle.kdf_hmac.specs.declared.prf.Prf.{Prf}

pub record Derivation : Type 0 where
  pub prf : Prf
  pub password : List ℕ
  pub salt : List ℕ
  pub iterations : ℕ
  pub left : ℕ
