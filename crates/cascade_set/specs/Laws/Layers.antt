-- The layers of an algorithm one by one, of which there are up to three.
use Rattle.std.specs.Prelude.{ℕ, List, length, Option, Some, None, slice_get}
use Rattle.algorithm_names.specs.Algorithms.{ciphers_of}
use Rattle.cascade_set.specs.Cascade.{layer_enciphered, layer_deciphered}
use Rattle.algorithm_names.specs.declared.algorithm.Cipher.{Cipher}
use Rattle.cascade_set.specs.declared.keys.Keys.{Keys}

abbrev pub by_layer : Option Cipher → ℕ → ℕ → List ℕ → ℕ → List ℕ → List ℕ
by_layer None k i material n stretch = stretch
by_layer (Some cipher) k i material n stretch = layer_enciphered cipher k i material n stretch

abbrev pub undone_by_layer : Option Cipher → ℕ → ℕ → List ℕ → ℕ → List ℕ → List ℕ
undone_by_layer None k i material n stretch = stretch
undone_by_layer (Some cipher) k i material n stretch = layer_deciphered cipher k i material n stretch

-- by the i-th layer; past the last one nothing changes
unfoldable pub layer_at : Keys → ℕ → ℕ → List ℕ → List ℕ
layer_at keys i n stretch =
    by_layer (slice_get (ciphers_of keys.algorithm) i) (length (ciphers_of keys.algorithm)) i keys.material n stretch

unfoldable pub layer_undone_at : Keys → ℕ → ℕ → List ℕ → List ℕ
layer_undone_at keys i n stretch =
    undone_by_layer (slice_get (ciphers_of keys.algorithm) i) (length (ciphers_of keys.algorithm)) i keys.material n
    stretch
