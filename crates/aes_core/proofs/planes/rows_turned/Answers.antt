use Rattle.std.proofs.Common.{◌≡◌, List, ℕ, [], ◌∷◌}
use Rattle.aes_core.specs.Laws.Planes.{plane, by_rows}
use Rattle.aes_core.proofs.Moves.{turned_planes}
use Rattle.aes_core.proofs.OnPlanes.{below_eight}
use Rattle.aes_core.proofs.planes.rows_turned.Goals as goal

pub returns-clause-planes : goal.returns-clause-planes
returns-clause-planes c =
    rw (c.turn.ensures, c.turn-2.ensures, c.turn-3.ensures, c.turn-4.ensures, c.turn-5.ensures, c.turn-6.ensures, c.turn-7.ensures, c.turn-8.ensures)
    (turned_planes c.args.x c.requires)

pub returns-clause-each : goal.returns-clause-each
returns-clause-each c =
    let y : List (List ℕ) = c.turn.result ∷ c.turn-2.result ∷ c.turn-3.result ∷ c.turn-4.result
    ∷ c.turn-5.result ∷ c.turn-6.result ∷ c.turn-7.result ∷ c.turn-8.result ∷ [] in
    below_eight (λ k. plane y k ≡ by_rows (plane c.args.x k)) c.turn.ensures c.turn-2.ensures c.turn-3.ensures c.turn-4.ensures c.turn-5.ensures c.turn-6.ensures c.turn-7.ensures c.turn-8.ensures
