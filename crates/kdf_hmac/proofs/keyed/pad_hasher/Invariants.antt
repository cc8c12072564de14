use Rattle.std.proofs.Common.{◌≡◌, ℕ, ◌<◌, ◌≤◌, length, get_or, bit_xor}
use Rattle.kdf_hmac.proofs.keyed.pad_hasher.Given as goal

abbrev pub invariant-bytes : goal.invariant-bytes
invariant-bytes g l = (length l.b-items ≡ 128)
    × ((k : ℕ) → k < l.b-index → get_or l.b-items k 0 ≡ bit_xor (get_or l.fn.block k 0) l.byte)
    × ((k : ℕ) → l.b-index ≤ k → get_or l.b-items k 0 ≡ get_or l.fn.block k 0)
