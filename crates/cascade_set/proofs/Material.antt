-- Only the first 64 bytes for each of k ciphers count: the keys of the i-th are two pieces of 32 bytes
-- among them.
use Rattle.std.proofs.Common.{◌≡◌, ◌≤◌, ◌+◌, ◌*◌, ℕ, suc, List, [], ◌∷◌, length, take, refl, sym, ap, ap₂, ◌∙◌, subst, arith}
use Rattle.vc_base.specs.Bytes.{piece}
use Rattle.vc_base.proofs.Chunks.{piece-take}
use Rattle.cipher_base.specs.Xts.{xts}
use Rattle.algorithm_names.specs.Algorithms.{ciphers_of}
use Rattle.algorithm_names.specs.declared.algorithm.Algorithm.{Algorithm}
use Rattle.algorithm_names.specs.declared.algorithm.Cipher.{Cipher}
use Rattle.cascade_set.specs.Cascade.{CountAlike, block_enciphered, block_deciphered, layer_enciphered, layer_deciphered, enciphered_from, deciphered_from, enciphered, deciphered}
use Rattle.cascade_set.specs.declared.keys.Keys.{Keys}

-- key j is among the bytes that count
same_key : (k j : ℕ) (xs ys : List ℕ) → take (64 * k) xs ≡ take (64 * k) ys → j + 1 ≤ 2 * k
    → piece 32 j xs ≡ piece 32 j ys
same_key k j xs ys same within =
    let inside : 32 * j + 32 ≤ 64 * k = omega arith in
    sym (piece-take 32 j (64 * k) xs inside) ∙ ap (piece 32 j) same ∙ piece-take 32 j (64 * k) ys inside

enciphered_alike : (cs : List Cipher) (k i : ℕ) (xs ys : List ℕ) (n : ℕ) (s : List ℕ)
    → take (64 * k) xs ≡ take (64 * k) ys → i + length cs ≤ k
    → enciphered_from cs k i xs n s ≡ enciphered_from cs k i ys n s
unfolding enciphered_from
enciphered_alike [] k i xs ys n s same within = refl
enciphered_alike (c ∷ cs) k i xs ys n s same within =
    let layer : layer_enciphered c k i xs n s ≡ layer_enciphered c k i ys n s
    = ap₂ (λ (main tweak : List ℕ). xts (block_enciphered c main) (block_enciphered c tweak) n s)
    (same_key k i xs ys same (omega arith)) (same_key k (k + i) xs ys same (omega arith)) in
    ap (enciphered_from cs k (i + 1) xs n) layer
    ∙ enciphered_alike cs k (i + 1) xs ys n (layer_enciphered c k i ys n s) same (omega arith)

deciphered_alike : (cs : List Cipher) (k i : ℕ) (xs ys : List ℕ) (n : ℕ) (s : List ℕ)
    → take (64 * k) xs ≡ take (64 * k) ys → i + length cs ≤ k
    → deciphered_from cs k i xs n s ≡ deciphered_from cs k i ys n s
unfolding deciphered_from
deciphered_alike [] k i xs ys n s same within = refl
deciphered_alike (c ∷ cs) k i xs ys n s same within =
    let rest : List ℕ = deciphered_from cs k (i + 1) ys n s in
    let layer : layer_deciphered c k i xs n rest ≡ layer_deciphered c k i ys n rest
    = ap₂ (λ (main tweak : List ℕ). xts (block_deciphered c main) (block_enciphered c tweak) n rest)
    (same_key k i xs ys same (omega arith)) (same_key k (k + i) xs ys same (omega arith)) in
    ap (layer_deciphered c k i xs n) (deciphered_alike cs k (i + 1) xs ys n s same (omega arith)) ∙ layer

pub enciphers_alike : (a b : Keys) → CountAlike a b → (n : ℕ) (s : List ℕ)
    → enciphered a n s ≡ enciphered b n s
unfolding enciphered
enciphers_alike a b alike n s =
    let cs : List Cipher = ciphers_of a.algorithm in
    enciphered_alike cs (length cs) 0 a.material b.material n s alike.counted (omega arith)
    ∙ ap (λ (g : Algorithm). enciphered_from (ciphers_of g) (length (ciphers_of g)) 0 b.material n s)
    alike.algorithm

pub deciphers_alike : (a b : Keys) → CountAlike a b → (n : ℕ) (s : List ℕ)
    → deciphered a n s ≡ deciphered b n s
unfolding deciphered
deciphers_alike a b alike n s =
    let cs : List Cipher = ciphers_of a.algorithm in
    deciphered_alike cs (length cs) 0 a.material b.material n s alike.counted (omega arith)
    ∙ ap (λ (g : Algorithm). deciphered_from (ciphers_of g) (length (ciphers_of g)) 0 b.material n s)
    alike.algorithm
