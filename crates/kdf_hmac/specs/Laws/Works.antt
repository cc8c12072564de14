-- A derivation over either hash, for contracts inside the crate.
use Rattle.kdf_hmac.specs.Derivation.{Derivation}
use Rattle.kdf_hmac.specs.declared.derive_steps.Work.{Work}
use Rattle.kdf_hmac.specs.declared.derive_steps.Work.TheVariants.{Sha512, Sha256}

abbrev pub derivation_of : Work → Derivation
derivation_of (Sha512 d) = d
derivation_of (Sha256 d) = d
