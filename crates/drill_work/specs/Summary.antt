-- The summary of the drill of a number n. docs/FORMAT.md, "The drill", has it in words; the requests are those of
-- drill_streams.
--
-- spec              what is formatted
-- container n       the container, as it is formatted
-- fields n, keys n  the fields of its header, and the keys in them
-- volume            its plain volume, of 9,728 sectors of 512 bytes: a sector is one data unit
-- opening n         what the sectors of this volume hold at first
-- laid_all ws a     the array a with these writes laid over it, one after the other
-- all_laid n a      the array a with all writes of the clients 0, 1 and 2 laid over it
-- final n           what the sectors hold at the end
-- digest n          the SHA-256 of them all, in order
-- IsSummary n s     s is the summary of the drill
use Rattle.std.specs.Prelude.{◌≡◌, ℕ, ◌+◌, List, [], ◌∷◌, None}
use Rattle.sha2.specs.Sha256.{sha256}
use Rattle.vc_base.specs.Bytes.{joined}
use Rattle.algorithm_names.specs.declared.algorithm.Algorithm.TheVariants.{Aes}
use Rattle.kdf_hmac.specs.declared.prf.Prf.TheVariants.{Sha512}
use Rattle.cascade_set.specs.Cascade.{deciphered}
use Rattle.cascade_set.specs.declared.keys.Keys.{Keys}
use Rattle.vc_header.specs.declared.fields.Fields.{Fields}
use Rattle.volume_format.specs.Formatted.{formatted, material_of, outer_fields}
use Rattle.volume_format.specs.declared.outer.FormatSpec.{FormatSpec}
use Rattle.sector_model.specs.Array.{Array, laid, unit, Volume}
use Rattle.drill_streams.specs.Drill.{generator, reads, sectors, Write, writes, writes_of}
use Rattle.drill_work.specs.declared.summary.Summary.{Summary}

-- The password is `drill`.
abbrev pub spec : FormatSpec
spec = record {
  password = 100 ∷ 114 ∷ 105 ∷ 108 ∷ 108 ∷ [];
  pim = 1;
  prf = Sha512;
  algorithm = Aes;
  size = 5242880;
  sector = 512;
}

unfoldable pub container : ℕ → List ℕ
container n = formatted (generator n 0) spec

unfoldable pub fields : ℕ → Fields
fields n = outer_fields spec (material_of (generator n 0) spec.size spec.algorithm)

abbrev pub keys : ℕ → Keys
keys n = record { algorithm = Aes; material = (fields n).material }

-- It begins with data unit 256 of the container. Nothing is protected.
abbrev pub volume : Volume
volume = record { per_sector = 1; sectors = 9728; start = 256; protected = None }

abbrev pub opening : ℕ → Array
opening n u = deciphered (keys n) (256 + u) (unit (256 + u) (container n))

unfoldable pub laid_all : List Write → Array → Array
laid_all [] a = a
laid_all (w ∷ ws) a = laid_all ws (laid volume w.first w.bytes a)

abbrev pub all_laid : ℕ → Array → Array
all_laid n a = laid_all (writes_of n 2) (laid_all (writes_of n 1) (laid_all (writes_of n 0) a))

abbrev pub final : ℕ → Array
final n = all_laid n (opening n)

abbrev pub digest : ℕ → List ℕ
digest n = sha256 (joined (final n) 9728)

pub record IsSummary (n : ℕ) (s : Summary) : Type 0 where
  pub reads : s.reads ≡ reads n
  pub writes : s.writes ≡ writes n
  pub sectors : s.sectors ≡ sectors n
  pub digest : s.digest ≡ digest n
