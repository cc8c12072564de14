-- The plain volume: what the sectors of a container's image decipher to.
--
-- plain_units dec image unit count      `count` data units from the number `unit` on, each deciphered
--                                       under its number
-- plain_sectors keys start m image first count
--                                       `count` sectors of m data units each from `first` on, of the volume that
--                                       begins at byte `start`: sector i is the m units from start / 512 + m i on
use Rattle.std.specs.Prelude.{ℕ, ◌+◌, ◌*◌, ◌/◌, List}
use Rattle.vc_base.specs.Bytes.{joined, piece}
use Rattle.cascade_set.specs.declared.keys.Keys.{Keys}
use Rattle.cascade_set.specs.Cascade.{deciphered}

abbrev pub plain_units : (ℕ → List ℕ → List ℕ) → List ℕ → ℕ → ℕ → List ℕ
plain_units dec image unit count = joined (λ i. dec (unit + i) (piece 512 (unit + i) image)) count

abbrev pub plain_sectors : Keys → ℕ → ℕ → List ℕ → ℕ → ℕ → List ℕ
plain_sectors keys start m image first count = plain_units (deciphered keys) image (start / 512 + m * first) (m * count)
