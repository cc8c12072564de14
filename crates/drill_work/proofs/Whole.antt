-- The whole drill: the header that was opened, and the digest of what the clients left.
--
-- The cipher of the opened header deciphers as the definition does, so the volume begins as `opening` says and ends as
-- `final` does, sector by sector.
use Rattle.std.proofs.Common.{◌≡◌, ℕ, ◌+◌, ◌/◌, List, refl, ap, ap₂, ◌∙◌}
use Rattle.sha2.specs.Sha256.{sha256}
use Rattle.vc_base.proofs.Pieces.{joined_same}
use Rattle.algorithm_names.specs.declared.algorithm.Algorithm.{Algorithm}
use Rattle.algorithm_names.specs.declared.algorithm.Algorithm.TheVariants.{Aes}
use Rattle.cascade_set.specs.Cascade.{deciphered}
use Rattle.cascade_set.specs.Volume.{plain_units}
use Rattle.cascade_set.specs.declared.keys.Keys.{Keys}
use Rattle.vc_header.specs.Volume.{IsVolume}
use Rattle.vc_header.specs.declared.fields.Fields.{Fields}
use Rattle.vc_layout.specs.declared.geometry.Geometry.{Geometry}
use Rattle.sector_model.specs.Array.{unit}
use Rattle.drill_work.specs.Laws.Ended.{HasServed}
use Rattle.drill_work.specs.Summary.{container, digest, fields, final, keys, opening}
use Rattle.drill_work.proofs.Apart.{all_laid_same}

-- ---- the header

sector_is : (n : ℕ) → (fields n).sector ≡ 512
unfolding fields
sector_is n = refl

start_is : (n : ℕ) → (fields n).start ≡ 131072
unfolding fields
start_is n = refl

sectors_are : (n : ℕ) → (fields n).volume_size / (fields n).sector ≡ 9728
unfolding fields
sectors_are n = refl

pub opened_sector : (n : ℕ) (f : Fields) → f ≡ fields n → f.sector ≡ 512
opened_sector n f is = ap (λ (g : Fields). g.sector) is ∙ sector_is n

module _ (n : ℕ) (f : Fields) (g : Geometry) (is : f ≡ fields n) (volume : IsVolume f g) where
  pub volume_start : g.start ≡ 131072
  volume_start = volume.start ∙ ap (λ (h : Fields). h.start) is ∙ start_is n

  pub volume_sectors : g.sectors ≡ 9728
  volume_sectors = volume.sectors ∙ ap (λ (h : Fields). h.volume_size / h.sector) is ∙ sectors_are n

  pub volume_sector : g.sector ≡ 512
  volume_sector = volume.sector ∙ opened_sector n f is

pub keys_are : (n : ℕ) (a : Algorithm) (f : Fields) → a ≡ Aes → f ≡ fields n → record { algorithm = a; material = f.material } ≡ keys n
keys_are n a f algorithm is = λ i. record { algorithm = algorithm i; material = (is i).material }

-- ---- the digest

module _ (n : ℕ) (dec : ℕ → List ℕ → List ℕ) (ks : Keys) (old new : List ℕ) (same : (k : ℕ) (u : List ℕ) → dec k u ≡ deciphered ks k u)
    (by : ks ≡ keys n) (made : old ≡ container n) (served : HasServed n dec old new) where
  begins : (u : ℕ) → dec (256 + u) (unit (256 + u) old) ≡ opening n u
  begins u = same (256 + u) (unit (256 + u) old)
      ∙ ap₂ (λ (k : Keys) (b : List ℕ). deciphered k (256 + u) (unit (256 + u) b)) by made

  ends : (u : ℕ) → dec (256 + u) (unit (256 + u) new) ≡ final n u
  ends u = served.array u ∙ all_laid_same n u (λ u. dec (256 + u) (unit (256 + u) old)) (opening n) (begins u)

  pub digest_is : (d : List ℕ) → d ≡ sha256 (plain_units dec new 256 9728) → d ≡ digest n
  digest_is d is =
      is ∙ ap sha256 (joined_same (λ i. dec (256 + i) (unit (256 + i) new)) (final n) 9728 (λ j below. ends j))
