use Rattle.std.proofs.Common.{List, ℕ, ◌+◌}
use Rattle.kdf_hmac.specs.Laws.Absorbed.{IsKeyed}
use Rattle.kdf_hmac.specs.Laws.Progress.{Stepped}
use Rattle.kdf_hmac.proofs.block.more_steps.Given as goal

abbrev pub invariant-steps : goal.invariant-steps
invariant-steps g l =
    (password salt : List ℕ) (number done : ℕ)
    → IsKeyed g.H.Hasher.holds g.H.Hasher.prf l.key.inner l.key.outer password
    → Stepped g.H.Hasher.prf password salt number l.fn.block.mac l.fn.block.sum done
    → Stepped g.H.Hasher.prf password salt number l.mac l.sum (done + l._done)
