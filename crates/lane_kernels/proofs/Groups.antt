-- Eight blocks that spell eight states.
use Rattle.std.proofs.Common.{◌≡◌, ◌<◌, List, ℕ, length, sym, ◌∙◌, arith}
use Rattle.vc_base.specs.Bytes.{piece, joined, in_pieces}
use Rattle.vc_base.proofs.Pieces.{joined_same, in_pieces-joined}
use Rattle.vc_base.specs.Words.{block_of}
use Rattle.lane_kernels.specs.Laws.Lanes.{lane}

pub eight_written : (f : List ℕ → List ℕ) (x : List (List ℕ)) (old now : List ℕ) → length old ≡ 128
    → now ≡ joined (λ j. block_of (lane j x)) 8
    → ((j : ℕ) → j < 8 → block_of (lane j x) ≡ f (piece 16 j old))
    → now ≡ in_pieces 16 (λ _ b. f b) old
eight_written f x old now long written each =
    written ∙ joined_same (λ j. block_of (lane j x)) (λ j. f (piece 16 j old)) 8 each
    ∙ sym (in_pieces-joined 16 8 (λ j b. f b) old (omega arith) long)
