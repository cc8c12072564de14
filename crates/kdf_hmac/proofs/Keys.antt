-- A digest in its field of 64 bytes, and a key as a block of 128 or 64.
--
-- Every digest has the output length of its hash. A list with zeros after it, cut at a place past the list,
-- is the list with fewer zeros after it: that is what is left of the array of 128 bytes in which a key, or
-- the digest of a long key, was written over zeros.
use Rattle.std.proofs.Common.{◌≡◌, ◌<◌, ◌≤◌, ℕ, ◌+◌, ◌-◌, List, ◌++◌, length, take, drop, replicate}
use Rattle.std.proofs.Common.{sym, ap, ◌∙◌, arith, take_at, append_assoc, lit≤}
use Rattle.std.specs.Prelude.{if◌then◌else◌}
use Rattle.std.proofs.Math.Seq.{take-append-add}
use Rattle.std.proofs.lemmas.Bool.{le-ltb, lt-ltb}
use Rattle.std.proofs.lemmas.List.{take-replicate, drop-replicate, replicate-append-replicate}
use Rattle.sha2.proofs.Facts256.{length-sha256}
use Rattle.sha2.proofs.Facts512.{length-sha512}
use Rattle.kdf_hmac.specs.declared.prf.Prf.{Prf}
use Rattle.kdf_hmac.specs.declared.prf.Prf.TheVariants.{Sha512, Sha256}
use Rattle.vc_base.specs.Bytes.{xor_bytes}
use Rattle.kdf_hmac.specs.Hmac.{hash, output_length, block_length, shortened, key_block, ipad, opad, padded, hmac_of}

-- ---- lengths

pub record Lengths (prf : Prf) : Type 0 where
  pub digest_fits : output_length prf ≤ block_length prf
  pub field_fits : output_length prf ≤ 64
  pub block_fits : block_length prf ≤ 128

pub lengths : (prf : Prf) → Lengths prf
lengths Sha512 = record { digest_fits = lit≤ tt; field_fits = lit≤ tt; block_fits = lit≤ tt }
lengths Sha256 = record { digest_fits = lit≤ tt; field_fits = lit≤ tt; block_fits = lit≤ tt }

pub length-hash : (prf : Prf) (m : List ℕ) → length (hash prf m) ≡ output_length prf
length-hash Sha512 m = length-sha512 m
length-hash Sha256 m = length-sha256 m

pub length-hmac_of : (prf : Prf) (key text : List ℕ) → length (hmac_of prf key text) ≡ output_length prf
unfolding hmac_of
length-hmac_of prf key text = length-hash prf _

-- a digest is the first part of its field
pub take-padded : (prf : Prf) (xs : List ℕ) → length xs ≡ output_length prf
    → take (output_length prf) (padded prf xs) ≡ xs
take-padded prf xs e = take_at xs (replicate (64 - output_length prf) 0) (output_length prf) e

-- ---- the key as a block

take_zeros : (xs : List ℕ) (n m : ℕ) → length xs ≤ n → n ≤ length xs + m
    → take n (xs ++ replicate m 0) ≡ xs ++ replicate (n - length xs) 0
take_zeros xs n m low high =
    let cut : length xs + (n - length xs) ≡ n = omega arith in
    ap (λ (k : ℕ). take k (xs ++ replicate m 0)) (sym cut)
    ∙ take-append-add xs (replicate m 0) (n - length xs)
    ∙ ap (λ zs. xs ++ zs) (take-replicate (n - length xs) m 0 (omega arith))

pub block_of_short : (prf : Prf) (key : List ℕ) → length key ≤ block_length prf
    → take (block_length prf) (key ++ drop (length key) (replicate 128 0)) ≡ key_block prf key
unfolding key_block
block_of_short prf key short =
    let sizes = lengths prf in
    let choice : shortened prf key ≡ key
    = ap (λ b. if b then hash prf key else key) (le-ltb (block_length prf) (length key) short) in
    ap (λ zs. take (block_length prf) (key ++ zs)) (drop-replicate (length key) 128 0)
    ∙ take_zeros key (block_length prf) (128 - length key) short (omega (arith, sizes.block_fits))
    ∙ ap (λ k. k ++ replicate (block_length prf - length k) 0) (sym choice)

pub block_of_long : (prf : Prf) (key field : List ℕ) → block_length prf < length key
    → field ≡ padded prf (hash prf key)
    → take (block_length prf) (field ++ drop 64 (replicate 128 0)) ≡ key_block prf key
unfolding key_block
block_of_long prf key field long is =
    let sizes = lengths prf in
    let digest = hash prf key in
    let count : length digest ≡ output_length prf = length-hash prf key in
    let choice : shortened prf key ≡ digest
    = ap (λ b. if b then hash prf key else key) (lt-ltb (block_length prf) (length key) long) in
    let zeros = 64 - output_length prf in
    let low : length digest ≤ block_length prf = omega (arith, sizes.digest_fits, count) in
    let high : block_length prf ≤ length digest + (zeros + 64) = omega (arith, sizes.block_fits, sizes.field_fits, count) in
    ap (λ f. take (block_length prf) (f ++ drop 64 (replicate 128 0))) is
    ∙ ap (take (block_length prf)) (append_assoc digest (replicate zeros 0) (replicate 64 0)
    ∙ ap (λ zs. digest ++ zs) (replicate-append-replicate zeros 64 0))
    ∙ take_zeros digest (block_length prf) (zeros + 64) low high
    ∙ ap (λ k. k ++ replicate (block_length prf - length k) 0) (sym choice)

-- ---- the mac, from the digest under the inner pad, in its field

pub mac_of_digest : (prf : Prf) (key text digest out : List ℕ) (n : ℕ) → n ≡ output_length prf
    → digest ≡ padded prf (hash prf (xor_bytes (key_block prf key) (ipad prf) ++ text))
    → out ≡ padded prf (hash prf (xor_bytes (key_block prf key) (opad prf) ++ take n digest))
    → out ≡ padded prf (hmac_of prf key text)
unfolding hmac_of
mac_of_digest prf key text digest out n size digest_is out_is =
    let first : take n digest ≡ hash prf (xor_bytes (key_block prf key) (ipad prf) ++ text)
    = ap (λ (k : ℕ). take k digest) size ∙ ap (take (output_length prf)) digest_is
    ∙ take-padded prf _ (length-hash prf (xor_bytes (key_block prf key) (ipad prf) ++ text)) in
    out_is ∙ ap (λ d. padded prf (hash prf (xor_bytes (key_block prf key) (opad prf) ++ d))) first
