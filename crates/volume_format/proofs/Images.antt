-- The image: the stream, with a body written behind the salt of each header.
--
-- A salt is the 64 bytes of the stream that are in its slot. The backup header is behind the
-- standard one, so writing the one body leaves the other header.
--
-- HasUnits size    the container has whole data units, and both header groups
use Rattle.std.proofs.Common.{◌≡◌, ℕ, ◌+◌, ◌-◌, ◌≤◌, ◌%◌, List, ◌++◌, length, take, drop, refl, sym, ap, ◌∙◌, arith, length-take-le}
use Rattle.std.proofs.lemmas.List.{take-take, drop-take, drop-append-le}
use Rattle.rand_chacha.specs.ChaCha.{ChaCha}
use Rattle.vc_outside.specs.Told.{written}
use Rattle.vc_layout.specs.Layout.{IsFormattable}
use Rattle.vc_layout.specs.Laws.Sectors.{at_least_a_unit, whole_units}
use Rattle.vc_layout.specs.declared.slots.Slot.TheVariants.{Standard, BackupStandard}
use Rattle.vc_header.specs.declared.fields.Fields.{Fields}
use Rattle.kdf_hmac.specs.Pbkdf2.{derived}
use Rattle.vc_header.specs.Header.{body_of}
use Rattle.header_seal.specs.Sealed.{header_at, HeadersOpenAgain, OpensAgain, plain_by}
use Rattle.volume_format.specs.Stream.{stream_bytes}
use Rattle.volume_format.specs.Formatted.{body_under, formatted, material_of, outer_fields, sealing_of, Sealing, with_body}
use Rattle.volume_format.specs.Opens.{HasHeader}
use Rattle.volume_format.specs.declared.outer.FormatSpec.{FormatSpec}
use Rattle.volume_format.proofs.Draws.{length-stream, stream-part}
use Rattle.volume_format.proofs.Writes.{length-written, take_through, drop_behind, part_before}

-- what was sealed under this salt opens again
abbrev pub IsReadable : Sealing → List ℕ → Fields → Type 0
IsReadable k salt fields = OpensAgain k.algorithm (derived k.prf k.password k.pim salt) fields

pub read_again : HeadersOpenAgain → (k : Sealing) (salt header : List ℕ) (fields : Fields) → length salt ≡ 64
    → header ≡ salt ++ body_under k salt fields → IsReadable k salt fields
    → plain_by k.prf k.algorithm k.password k.pim header ≡ body_of fields
read_again law k salt header fields long is readable =
    ap (plain_by k.prf k.algorithm k.password k.pim) is
    ∙ law k.prf k.algorithm k.password k.pim salt fields long readable

pub record HasUnits (size : ℕ) : Type 0 where
  pub shortest : 262656 ≤ size
  pub whole : size % 512 ≡ 0

pub has_units : (size s : ℕ) → IsFormattable size s → HasUnits size
has_units size s fits = record {
  shortest = omega (arith, fits.shortest, at_least_a_unit s fits.sector);
  whole = whole_units s size fits.sector fits.whole;
}

-- a body behind the salt at a place: the header there
pub header_written : (at : ℕ) (body b : List ℕ) → length body ≡ 448 → at + 512 ≤ length b
    → take 512 (drop at (written (at + 64) body b)) ≡ take 64 (drop at b) ++ body
header_written at body b long inside =
    let end : at + 512 ≡ at + 64 + 448 = omega arith in
    sym (drop-take at 512 (written (at + 64) body b))
    ∙ ap (λ (k : ℕ). drop at (take k (written (at + 64) body b))) end
    ∙ ap (drop at) (take_through (at + 64) 448 body b long (omega (arith, inside)))
    ∙ drop-append-le at (take (at + 64) b) body
    (omega (arith, inside, length-take-le (at + 64) b (omega (arith, inside))))
    ∙ ap (λ (s : List ℕ). s ++ body) (drop-take at 64 b)

-- the salt at a place of the filled container
salt_in : (g : ChaCha) (at size : ℕ) → at % 4 ≡ 0 → at + 64 ≤ size
    → take 64 (drop at (stream_bytes g 0 size)) ≡ stream_bytes g at 64
salt_in g at size place inside =
    let e : at + (64 + (size - (at + 64))) ≡ size = omega (arith, inside) in
    ap (λ (k : ℕ). take 64 (drop at (stream_bytes g 0 k))) (sym e) ∙ stream-part g at 64
    (size - (at + 64)) place refl

module _ (g : ChaCha) (spec : FormatSpec) (f : Fields) (fits : HasUnits spec.size) where
  abbrev backup : ℕ
  backup = spec.size - 131072

  abbrev filled : List ℕ
  filled = stream_bytes g 0 spec.size

  -- the bodies under the salts of the two slots
  abbrev pub body : List ℕ
  body = body_under (sealing_of spec) (stream_bytes g 0 64) f

  abbrev pub backup_body : List ℕ
  backup_body = body_under (sealing_of spec) (stream_bytes g backup 64) f

  -- with the standard header, and then with its backup
  abbrev pub with_one : List ℕ
  with_one = written 64 body filled

  abbrev pub with_both : List ℕ
  with_both = written (backup + 64) backup_body with_one

  place : backup % 4 ≡ 0
  place = omega (arith, fits.shortest, fits.whole)

  length-filled : length filled ≡ spec.size
  length-filled = length-stream g 0 spec.size (omega (arith, fits.whole))

  length-one : length body ≡ 448 → length with_one ≡ spec.size
  length-one long = length-written 64 body filled
      (omega (arith, long, length-filled, fits.shortest)) ∙ length-filled

  pub length-both : length body ≡ 448 → length backup_body ≡ 448 → length with_both ≡ spec.size
  length-both long backup_long =
      length-written (backup + 64) backup_body with_one
      (omega (arith, backup_long, length-one long, fits.shortest))
      ∙ length-one long

  first_salt : take 64 (drop 0 filled) ≡ stream_bytes g 0 64
  first_salt = salt_in g 0 spec.size refl (omega (arith, fits.shortest))

  -- the standard header's body leaves the backup's salt
  second_salt : length body ≡ 448 → take 64 (drop backup with_one) ≡ stream_bytes g backup 64
  second_salt long =
      ap (take 64)
      (drop_behind 64 backup body filled (omega (arith, long, fits.shortest))
      (omega (arith, long, length-filled, fits.shortest)))
      ∙ salt_in g backup spec.size place (omega (arith, fits.shortest))

  -- the headers that stand there in the end
  header_is : length body ≡ 448 → length backup_body ≡ 448
      → header_at Standard with_both ≡ stream_bytes g 0 64 ++ body
  header_is long backup_long =
      part_before (backup + 64) 0 512 backup_body with_one (omega (arith, fits.shortest))
      (omega (arith, length-one long, fits.shortest))
      ∙ header_written 0 body filled long (omega (arith, length-filled, fits.shortest))
      ∙ ap (λ (s : List ℕ). s ++ body) first_salt

  backup_is : length body ≡ 448 → length backup_body ≡ 448
      → header_at BackupStandard with_both ≡ stream_bytes g backup 64 ++ backup_body
  backup_is long backup_long =
      ap (λ (n : ℕ). take 512 (drop (n - 131072) with_both)) (length-both long backup_long)
      ∙ header_written backup backup_body with_one backup_long
      (omega (arith, length-one long, fits.shortest))
      ∙ ap (λ (s : List ℕ). s ++ backup_body) (second_salt long)

  -- which is what formatting is defined to make
  pub formatted_is : f ≡ outer_fields spec (material_of g spec.size spec.algorithm) → length body ≡ 448
      → with_both ≡ formatted g spec
  unfolding formatted
  formatted_is fields long =
      sym (ap (λ (f : Fields). with_body (sealing_of spec) f BackupStandard (with_body (sealing_of spec) f Standard filled))
      (sym fields)
      ∙ ap (with_body (sealing_of spec) f BackupStandard) one ∙ two)
    where
      one : with_body (sealing_of spec) f Standard filled ≡ with_one
      one = ap (λ (s : List ℕ). written 64 (body_under (sealing_of spec) s f) filled)
          (take-take 64 512 filled (omega arith) ∙ first_salt)

      two : with_body (sealing_of spec) f BackupStandard with_one ≡ with_both
      two =
          ap (λ (n : ℕ). written (n - 131072 + 64)
          (body_under (sealing_of spec) (take 64 (take 512 (drop (n - 131072) with_one))) f) with_one)
          (length-one long)
          ∙ ap (λ (s : List ℕ). written (backup + 64) (body_under (sealing_of spec) s f) with_one)
          (take-take 64 512 (drop backup with_one) (omega arith) ∙ second_salt long)

  pub carries : HeadersOpenAgain → IsReadable (sealing_of spec) (stream_bytes g 0 64) f
      → IsReadable (sealing_of spec) (stream_bytes g backup 64) f → HasHeader with_both Standard (sealing_of spec) f
  carries law r q =
      read_again law (sealing_of spec) (stream_bytes g 0 64) (header_at Standard with_both) f
      (length-stream g 0 64 refl) (header_is r.as_long q.as_long) r

  pub backup_carries : HeadersOpenAgain → IsReadable (sealing_of spec) (stream_bytes g 0 64) f
      → IsReadable (sealing_of spec) (stream_bytes g backup 64) f
      → HasHeader with_both BackupStandard (sealing_of spec) f
  backup_carries law r q =
      read_again law (sealing_of spec) (stream_bytes g backup 64) (header_at BackupStandard with_both) f
      (length-stream g backup 64 refl)
      (backup_is r.as_long q.as_long) q
