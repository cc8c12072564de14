-- An algorithm's cascade is its layers in turn: with fewer than three ciphers the last layers are nothing.
use Rattle.std.proofs.Common.{◌≡◌, ◌≤◌, ℕ, ◌+◌, List, length, Some, refl, sym, ap, ◌∙◌}
use Rattle.std.specs.Prelude.{slice_get}
use Rattle.std.proofs.lemmas.Option.{slice_get_past}
use Rattle.vc_base.specs.Bytes.{piece}
use Rattle.cipher_base.specs.Xts.{xts}
use Rattle.algorithm_names.specs.Algorithms.{ciphers_of}
use Rattle.cascade_set.specs.Cascade.{block_enciphered, block_deciphered, enciphered, deciphered, enciphered_from, deciphered_from}
use Rattle.cascade_set.specs.Laws.Layers.{by_layer, undone_by_layer, layer_at, layer_undone_at}
use Rattle.algorithm_names.specs.declared.algorithm.Algorithm.{Algorithm}
use Rattle.algorithm_names.specs.declared.algorithm.Algorithm.TheVariants.{Aes, Serpent, Twofish, AesTwofish, AesTwofishSerpent, SerpentAes, SerpentTwofishAes, TwofishSerpent}
use Rattle.algorithm_names.specs.declared.algorithm.Cipher.{Cipher}
use Rattle.cascade_set.specs.declared.keys.Keys.{Keys}

pub in_turn : (keys : Keys) (n : ℕ) (s : List ℕ)
    → layer_at keys 2 n (layer_at keys 1 n (layer_at keys 0 n s)) ≡ enciphered keys n s
unfolding layer_at enciphered enciphered_from
in_turn keys n s = by_algorithm keys.algorithm
  where
    by_algorithm : (a : Algorithm)
        → layer_at (record { algorithm = a; material = keys.material }) 2 n
        (layer_at (record { algorithm = a; material = keys.material }) 1 n
        (layer_at (record { algorithm = a; material = keys.material }) 0 n s))
        ≡ enciphered (record { algorithm = a; material = keys.material }) n s
    by_algorithm Aes = refl
    by_algorithm Serpent = refl
    by_algorithm Twofish = refl
    by_algorithm AesTwofish = refl
    by_algorithm AesTwofishSerpent = refl
    by_algorithm SerpentAes = refl
    by_algorithm SerpentTwofishAes = refl
    by_algorithm TwofishSerpent = refl

pub undone_in_turn : (keys : Keys) (n : ℕ) (s : List ℕ)
    → layer_undone_at keys 0 n (layer_undone_at keys 1 n (layer_undone_at keys 2 n s)) ≡ deciphered keys n s
unfolding layer_undone_at deciphered deciphered_from
undone_in_turn keys n s = by_algorithm keys.algorithm
  where
    by_algorithm : (a : Algorithm)
        → layer_undone_at (record { algorithm = a; material = keys.material }) 0 n
        (layer_undone_at (record { algorithm = a; material = keys.material }) 1 n
        (layer_undone_at (record { algorithm = a; material = keys.material }) 2 n s))
        ≡ deciphered (record { algorithm = a; material = keys.material }) n s
    by_algorithm Aes = refl
    by_algorithm Serpent = refl
    by_algorithm Twofish = refl
    by_algorithm AesTwofish = refl
    by_algorithm AesTwofishSerpent = refl
    by_algorithm SerpentAes = refl
    by_algorithm SerpentTwofishAes = refl
    by_algorithm TwofishSerpent = refl

-- past the last cipher
pub no_layer : (keys : Keys) (i : ℕ) → length (ciphers_of keys.algorithm) ≤ i → (n : ℕ) (s : List ℕ)
    → s ≡ layer_at keys i n s
unfolding layer_at
no_layer keys i past n s =
    ap (λ c. by_layer c (length (ciphers_of keys.algorithm)) i keys.material n s)
    (sym (slice_get_past (ciphers_of keys.algorithm) i past))

pub no_layer_undone : (keys : Keys) (i : ℕ) → length (ciphers_of keys.algorithm) ≤ i → (n : ℕ) (s : List ℕ)
    → s ≡ layer_undone_at keys i n s
unfolding layer_undone_at
no_layer_undone keys i past n s =
    ap (λ c. undone_by_layer c (length (ciphers_of keys.algorithm)) i keys.material n s)
    (sym (slice_get_past (ciphers_of keys.algorithm) i past))

-- main and tweak are the i-th cipher, of k, under its keys
module _ (keys : Keys) (i k : ℕ) (cipher : Cipher) (main tweak : List ℕ → List ℕ)
    (is_count : k ≡ length (ciphers_of keys.algorithm)) (is : slice_get (ciphers_of keys.algorithm) i ≡ Some cipher)
    (is_tweak : (b : List ℕ) → tweak b ≡ block_enciphered cipher (piece 32 (k + i) keys.material) b) where
  pub one_layer : ((b : List ℕ) → main b ≡ block_enciphered cipher (piece 32 i keys.material) b)
      → (n : ℕ) (s : List ℕ) → xts main tweak n s ≡ layer_at keys i n s
  unfolding layer_at
  one_layer is_main n s =
      (λ j. xts (λ b. is_main b j) (λ b. is_tweak b j) n s)
      ∙ ap (λ (x : ℕ). xts (block_enciphered cipher (piece 32 i keys.material))
      (block_enciphered cipher (piece 32 (x + i) keys.material)) n s) is_count
      ∙ ap (λ c. by_layer c (length (ciphers_of keys.algorithm)) i keys.material n s) (sym is)

  pub one_layer_undone : ((b : List ℕ) → main b ≡ block_deciphered cipher (piece 32 i keys.material) b)
      → (n : ℕ) (s : List ℕ) → xts main tweak n s ≡ layer_undone_at keys i n s
  unfolding layer_undone_at
  one_layer_undone is_main n s =
      (λ j. xts (λ b. is_main b j) (λ b. is_tweak b j) n s)
      ∙ ap (λ (x : ℕ). xts (block_deciphered cipher (piece 32 i keys.material))
      (block_enciphered cipher (piece 32 (x + i) keys.material)) n s) is_count
      ∙ ap (λ c. undone_by_layer c (length (ciphers_of keys.algorithm)) i keys.material n s) (sym is)
