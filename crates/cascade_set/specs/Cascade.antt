-- What an algorithm makes of data units and of header bodies, under key material.
--
-- With k ciphers, bytes 32i to 32i + 31 of the material are the main key of the i-th cipher in the
-- order of enciphering, and bytes 32(k + i) to 32(k + i) + 31 are its tweak key. Each cipher is a whole
-- XTS pass with keys of its own. A header body is one stretch under data unit 0.
--
-- enciphered keys n stretch     a stretch under data unit n, by each cipher in turn
-- deciphered keys n stretch     the same undone, so the last cipher first
use Rattle.std.specs.Prelude.{◌≡◌, ℕ, ◌+◌, ◌*◌, List, [], ◌∷◌, length, take}
use Rattle.vc_base.specs.Bytes.{piece}
use Rattle.cipher_base.specs.Xts.{xts}
use Rattle.aes_core.specs.Aes as aes
use Rattle.serpent_core.specs.Serpent as serpent
use Rattle.twofish_core.specs.Twofish as twofish
use Rattle.algorithm_names.specs.Algorithms.{ciphers_of}
use Rattle.algorithm_names.specs.declared.algorithm.Cipher.{Cipher}
use Rattle.algorithm_names.specs.declared.algorithm.Cipher.TheVariants.{Aes, Serpent, Twofish}
use Rattle.cascade_set.specs.declared.keys.Keys.{Keys}

-- a block under a key of 32 bytes
abbrev pub block_enciphered : Cipher → List ℕ → List ℕ → List ℕ
block_enciphered Aes key b = aes.enciphered key b
block_enciphered Serpent key b = serpent.enciphered key b
block_enciphered Twofish key b = twofish.enciphered key b

abbrev pub block_deciphered : Cipher → List ℕ → List ℕ → List ℕ
block_deciphered Aes key b = aes.deciphered key b
block_deciphered Serpent key b = serpent.deciphered key b
block_deciphered Twofish key b = twofish.deciphered key b

-- the keys of the i-th of k ciphers
abbrev pub main_key : ℕ → List ℕ → List ℕ
main_key i material = piece 32 i material

abbrev pub tweak_key : ℕ → ℕ → List ℕ → List ℕ
tweak_key k i material = piece 32 (k + i) material

-- a stretch under data unit n, by the i-th of k ciphers
abbrev pub layer_enciphered : Cipher → ℕ → ℕ → List ℕ → ℕ → List ℕ → List ℕ
layer_enciphered cipher k i material n stretch =
    xts (block_enciphered cipher (main_key i material)) (block_enciphered cipher (tweak_key k i material)) n stretch

abbrev pub layer_deciphered : Cipher → ℕ → ℕ → List ℕ → ℕ → List ℕ → List ℕ
layer_deciphered cipher k i material n stretch =
    xts (block_deciphered cipher (main_key i material)) (block_enciphered cipher (tweak_key k i material)) n stretch

-- by these ciphers in turn, of which the first is the i-th of k
unfoldable pub enciphered_from : List Cipher → ℕ → ℕ → List ℕ → ℕ → List ℕ → List ℕ
enciphered_from [] k i material n stretch = stretch
enciphered_from (c ∷ cs) k i material n stretch =
    enciphered_from cs k (i + 1) material n (layer_enciphered c k i material n stretch)

unfoldable pub deciphered_from : List Cipher → ℕ → ℕ → List ℕ → ℕ → List ℕ → List ℕ
deciphered_from [] k i material n stretch = stretch
deciphered_from (c ∷ cs) k i material n stretch =
    layer_deciphered c k i material n (deciphered_from cs k (i + 1) material n stretch)

unfoldable pub enciphered : Keys → ℕ → List ℕ → List ℕ
enciphered keys n stretch =
    enciphered_from (ciphers_of keys.algorithm) (length (ciphers_of keys.algorithm)) 0 keys.material n stretch

unfoldable pub deciphered : Keys → ℕ → List ℕ → List ℕ
deciphered keys n stretch =
    deciphered_from (ciphers_of keys.algorithm) (length (ciphers_of keys.algorithm)) 0 keys.material n stretch

-- the same algorithm, and the same first 64 bytes of material for each of its ciphers
pub record CountAlike (a b : Keys) : Type 0 where
  pub algorithm : a.algorithm ≡ b.algorithm
  pub counted : take (64 * length (ciphers_of a.algorithm)) a.material
      ≡ take (64 * length (ciphers_of a.algorithm)) b.material
