-- The PRFs: their numbers and names.
use Rattle.std.specs.Prelude.{ℕ, List, [], ◌∷◌, codes, find, Option}
use Rattle.std.specs.Str.{bytes_eq}
use Rattle.kdf_hmac.specs.declared.prf.Prf.{Prf}
use Rattle.kdf_hmac.specs.declared.prf.Prf.TheVariants.{Sha512, Sha256}

-- in the order in which opening tries them
abbrev pub all_prfs : List Prf
all_prfs = Sha512 ∷ Sha256 ∷ []

abbrev pub prf_number : Prf → ℕ
prf_number Sha512 = 0
prf_number Sha256 = 1

abbrev pub prf_name : Prf → List ℕ
prf_name Sha512 = codes "sha512"
prf_name Sha256 = codes "sha256"

-- the PRF of that name, or none
unfoldable pub prf_named : List ℕ → Option Prf
prf_named name = find (λ p. bytes_eq (prf_name p) name) all_prfs
