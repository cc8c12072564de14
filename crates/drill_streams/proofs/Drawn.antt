-- The word of a request, as the generator gives it: its key is made of the number, its stream is 1, and its place is set.
use Rattle.std.proofs.Common.{◌≡◌, ℕ, ◌+◌, ◌*◌, ◌%◌, ◌^◌, List, replicate, sym, ap, ◌∙◌, zero-add}
use Rattle.std.specs.Int.{w64, to_le_bytes}
use borrow.Rule.Slice.PartMut.{put_mid}
use Rattle.rand_chacha.specs.ChaCha.{ChaCha, next_word, of_seed, word_at, key_of as words_of_key}
use Rattle.drill_streams.specs.Drill.{generator, key_of, word}

module _ (n : ℕ) (bytes : List ℕ) (spelled : bytes ≡ to_le_bytes w64 n) where
  pub key_filled : put_mid 0 8 (replicate 32 0) bytes ≡ key_of n
  unfolding key_of
  key_filled = ap (put_mid 0 8 (replicate 32 0)) spelled

pub drawn_word : (n c r : ℕ) (bytes : List ℕ) (seeded streamed placed after : ChaCha) (place drawn : ℕ)
    → bytes ≡ to_le_bytes w64 n → seeded ≡ of_seed (put_mid 0 8 (replicate 32 0) bytes)
    → streamed ≡ record seeded { stream = 1 } → placed ≡ record streamed { word_pos = place % 2 ^ 68 } → place ≡ 12 * c + r
    → (drawn, after) ≡ next_word 10 placed → drawn ≡ word n c r
unfolding word generator
drawn_word n c r bytes seeded streamed placed after place drawn spelled seed stream at is draws =
    let start : seeded ≡ of_seed (key_of n) = seed ∙ ap of_seed (key_filled n bytes spelled) in
    let set : placed ≡ record { key = words_of_key (key_of n); stream = 1; word_pos = place % 2 ^ 68 }
    = at ∙ ap (λ (g : ChaCha). record g { word_pos = place % 2 ^ 68 }) (stream ∙ ap (λ (g : ChaCha). record g { stream = 1 }) start) in
    ap (λ (p : ℕ × ChaCha). p.0) draws
    ∙ ap (λ (g : ChaCha). word_at 10 g.key g.stream g.word_pos) set
    ∙ ap (λ (p : ℕ). word_at 10 (words_of_key (key_of n)) 1 (p % 2 ^ 68)) (is ∙ sym (zero-add (12 * c + r)))
