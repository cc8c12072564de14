use Rattle.std.proofs.Common.{◌≡◌, ◌<◌, ◌/◌, ℕ, List, [], length, get_or, ap, ◌∙◌, arith, lit<}
use Rattle.vc_base.specs.Bytes.{from_bytes, piece}
use Rattle.twofish_core.specs.Twofish.{rs_times, key_word, key_words}
use Rattle.twofish_core.specs.Laws.Words.{same_four}
use Rattle.vc_base.proofs.Chunks.{chunk_is_piece}
use Rattle.twofish_core.proofs.g.words_of_key.Goals as goal

pub returns : goal.returns
unfolding key_words
returns c =
    let key = c.args.key.now in
    let eights = c.as_chunks.result.0.now in
    let eight : (i : ℕ) → i < 4 → get_or eights i [] ≡ piece 8 i key
    = λ i below. rw c.as_chunks.ensures.front
    (chunk_is_piece 8 (length key / 8) key i (omega arith)) in
    let word : (i : ℕ) → i < 4 → from_bytes (rs_times (get_or eights i [])) ≡ key_word key i
    = λ i below. ap (λ (x : List ℕ). from_bytes (rs_times x)) (eight i below) in
    same_four _ _ _ _ _ _ _ _
    (c.key_word.ensures ∙ word 0 (lit< tt)) (c.key_word-2.ensures ∙ word 1 (lit< tt))
    (c.key_word-3.ensures ∙ word 2 (lit< tt)) (c.key_word-4.ensures ∙ word 3 (lit< tt))
