-- HMAC (RFC 2104, section 2) over SHA-512 and SHA-256 (FIPS 180-4, sections 6.4 and 6.2). A text and a
-- key are lists of bytes, and lengths are in bytes.
--
-- hash prf m            H: the digest of the message m
-- block_length prf      B: the length of a block of H
-- output_length prf     L: the length of a digest
-- key_block prf key     K: the key as a block
-- hmac_of prf key text  the MAC of the text under the key
-- padded prf xs         L bytes in a field of 64, with zeros after them
use Rattle.std.specs.Prelude.{ℕ, ◌-◌, List, ◌++◌, length, replicate, if◌then◌else◌, nat_lt}
use Rattle.sha2.specs.Sha256.{sha256}
use Rattle.sha2.specs.Sha512.{sha512}
use Rattle.vc_base.specs.Bytes.{xor_bytes}
use Rattle.kdf_hmac.specs.declared.prf.Prf.{Prf}
use Rattle.kdf_hmac.specs.declared.prf.Prf.TheVariants.{Sha512, Sha256}

abbrev pub hash : Prf → List ℕ → List ℕ
hash Sha512 m = sha512 m
hash Sha256 m = sha256 m

abbrev pub block_length : Prf → ℕ
block_length Sha512 = 128
block_length Sha256 = 64

abbrev pub output_length : Prf → ℕ
output_length Sha512 = 64
output_length Sha256 = 32

-- "Applications that use keys longer than B bytes will first hash the key using H"
abbrev pub shortened : Prf → List ℕ → List ℕ
shortened prf key = if nat_lt (block_length prf) (length key) then hash prf key else key

-- (1) "append zeros to the end of K to create a B byte string"
unfoldable pub key_block : Prf → List ℕ → List ℕ
key_block prf key = shortened prf key ++ replicate (block_length prf - length (shortened prf key)) 0

-- the byte 0x36, and the byte 0x5c, repeated B times
abbrev pub ipad : Prf → List ℕ
ipad prf = replicate (block_length prf) 0x36

abbrev pub opad : Prf → List ℕ
opad prf = replicate (block_length prf) 0x5c

-- (2) to (7): H(K XOR opad, H(K XOR ipad, text))
unfoldable pub hmac_of : Prf → List ℕ → List ℕ → List ℕ
hmac_of prf key text =
    hash prf (xor_bytes (key_block prf key) (opad prf)
    ++ hash prf (xor_bytes (key_block prf key) (ipad prf) ++ text))

abbrev pub padded : Prf → List ℕ → List ℕ
padded prf xs = xs ++ replicate (64 - output_length prf) 0
