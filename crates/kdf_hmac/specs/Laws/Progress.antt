-- How far a derivation is, for contracts inside the crate (RFC 8018, section 5.2, step 3). A step is one U_j.
--
-- Stepped prf p s i mac sum j    block i has had j steps: mac begins with U_j, and sum with the XOR
--                                of U_1 to U_j
-- block prf p s c k              T_(k+1), all of whose steps are done
-- Filled f n l out i             out, of l bytes, begins with f 0, .., f (i - 1), each of n bytes
-- steps_left prf c i j           the steps that 192 bytes still take after i blocks and j steps of the next
-- IsUnderWay ..                  after i blocks and j steps of the next: what the fields of a derivation hold
use Rattle.std.specs.Prelude.{◌≡◌, ◌<◌, ◌≤◌, ℕ, ◌+◌, ◌-◌, ◌*◌, min, List, take}
use Rattle.vc_base.specs.Bytes.{joined}
use Rattle.kdf_hmac.specs.declared.prf.Prf.{Prf}
use Rattle.kdf_hmac.specs.Laws.Absorbed.{IsKeyed}
use Rattle.kdf_hmac.specs.Hmac.{output_length}
use Rattle.kdf_hmac.specs.Pbkdf2.{u, t, block_count}

pub record Stepped (prf : Prf) (p s : List ℕ) (i : ℕ) (mac sum : List ℕ) (j : ℕ) : Type 0 where
  pub mac_is : take (output_length prf) mac ≡ u prf p s i j
  pub sum_is : take (output_length prf) sum ≡ t prf p s j i

abbrev pub block : Prf → List ℕ → List ℕ → ℕ → ℕ → List ℕ
block prf p s c k = t prf p s c (k + 1)

-- as far as out goes
pub record Filled (f : ℕ → List ℕ) (n l : ℕ) (out : List ℕ) (i : ℕ) : Type 0 where
  pub front : take (min (n * i) l) out ≡ take l (joined f i)

abbrev pub steps_left : Prf → ℕ → ℕ → ℕ → ℕ
steps_left prf c i j = (block_count prf 192 - i) * c - j

pub record IsUnderWay {X : Type 0} (holds : X → List ℕ → Type 0) (prf : Prf) (inner outer : X) (p s : List ℕ)
    (c i j : ℕ) (mac sum out : List ℕ) : Type 0 where
  pub keyed : IsKeyed holds prf inner outer p
  pub finished : Filled (block prf p s c) (output_length prf) 192 out i
  pub at_work : 1 ≤ j → Stepped prf p s (i + 1) mac sum j
  pub within : i ≤ block_count prf 192
  pub short : j < c
  -- no block is at work after the last
  pub fits : j ≤ (block_count prf 192 - i) * c
