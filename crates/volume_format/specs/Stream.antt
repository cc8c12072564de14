-- The random stream: the words of a ChaCha generator with 20 rounds, from its place on, each as 4 bytes with
-- the lowest first.
--
-- stream_bytes g at n    n bytes of the stream from byte `at` on, both multiples of 4
-- advanced g n           the generator after n bytes, a multiple of 4
use Rattle.std.specs.Prelude.{ℕ, ◌+◌, ◌/◌, ◌%◌, ◌^◌, List}
use Rattle.std.specs.Int.{w32, to_le_bytes}
use Rattle.rand_chacha.specs.ChaCha.{ChaCha, word_at}
use Rattle.vc_base.specs.Bytes.{joined}

-- word i from the generator's place on; the stream repeats after 2^68 words
abbrev pub stream_word : ChaCha → ℕ → ℕ
stream_word g i = word_at 10 g.key g.stream ((g.word_pos + i) % 2 ^ 68)

unfoldable pub stream_bytes : ChaCha → ℕ → ℕ → List ℕ
stream_bytes g at n = joined (λ i. to_le_bytes w32 (stream_word g (at / 4 + i))) (n / 4)

abbrev pub advanced : ChaCha → ℕ → ChaCha
advanced g n = record g { word_pos = (g.word_pos + n / 4) % 2 ^ 68 }
