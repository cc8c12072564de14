-- A client whose requests were all done, by how its session ended and what it was sent. Only private contracts cite it.
--
-- IsDone n c how k sent      client c of the drill of n
-- IsDoneAt n c s             the same of client c among those that were served
-- client_with bytes          a client that has sent these bytes, and was sent nothing
-- HasServed n dec old new    the container before and after all clients of the drill were served
use Rattle.std.specs.Prelude.{◌≡◌, ℕ, ◌+◌, List, [], Some, length, slice_get}
use Rattle.nbd_wire.specs.Replies.{AnsweredOf}
use Rattle.nbd_wire.specs.declared.end.End.{End}
use Rattle.nbd_wire.specs.declared.end.End.TheVariants.{Done}
use Rattle.sector_model.specs.Array.{unit}
use Rattle.sector_model.specs.declared.entry.Event.{Event}
use Rattle.vc_outside.specs.declared.source.Client.{Client}
use Rattle.vol_server.specs.declared.served.Served.{Served}
use Rattle.drill_streams.specs.Done.{IsCalm, puts}
use Rattle.drill_streams.specs.Drill.{requests, writes_of}
use Rattle.drill_work.specs.Summary.{all_laid}

-- Any history that such replies come from has the client's writes, each once and in order, and lost none.
pub record IsDone (n c : ℕ) (how : End) (k : ℕ) (sent : List ℕ) : Type 0 where
  pub ended : how ≡ Done
  pub all : k ≡ 12
  pub puts : (es : List Event) → AnsweredOf 512 (requests n c) Done es 12 sent Done → puts es ≡ writes_of n c
  pub calm : (es : List Event) → AnsweredOf 512 (requests n c) Done es 12 sent Done → IsCalm es

abbrev pub IsDoneAt : ℕ → ℕ → Served (List ℕ) (List ℕ) → Type 0
IsDoneAt n c s = (x : Client (List ℕ) (List ℕ)) (how : End) (k : ℕ) → slice_get s.clients.items c ≡ Some x
    → slice_get s.ends.items c ≡ Some how → slice_get s.replies.items c ≡ Some k → IsDone n c how k x.sink

-- a client that has sent these bytes, and was sent nothing
abbrev pub client_with : List ℕ → Client (List ℕ) (List ℕ)
client_with bytes = record { source = bytes; sink = [] }

-- Before and after the clients of the drill of n were served: the container is as long, and each unit of the volume
-- deciphers to what it held, with all writes laid over it.
pub record HasServed (n : ℕ) (dec : ℕ → List ℕ → List ℕ) (old new : List ℕ) : Type 0 where
  pub size : length new ≡ length old
  pub array : (u : ℕ) → dec (256 + u) (unit (256 + u) new) ≡ all_laid n (λ u. dec (256 + u) (unit (256 + u) old)) u
