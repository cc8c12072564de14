use Rattle.std.proofs.Common.{◌≡◌, ℕ, ◌<◌, length, get_or, bit_xor}
use Rattle.kdf_hmac.proofs.block.xor.Given as goal

abbrev pub invariant-bytes : goal.invariant-bytes
invariant-bytes l =
    (length l.out ≡ 64) × ((k : ℕ) → k < l.i → get_or l.out k 0 ≡ bit_xor (get_or l.x k 0) (get_or l.y k 0))
