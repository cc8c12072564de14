-- Replies, written one after another.
--
-- replies_in s            the reply of a lane's request, if it was carried out
-- SentInPart ..           the first n replies were written whole, and a part of the next one
-- IsSent held now rs n how
--                         the replies rs were written whole, all n of them; or the sink refused one
use Rattle.std.specs.Prelude.{◌≡◌, ◌<◌, ◌⊎◌, ℕ, List, [], ◌∷◌, ◌++◌, length, get_or, take, Option, Some, None}
use Rattle.std.specs.List.{concat}
use Rattle.nbd_wire.specs.declared.end.End.{End}
use Rattle.nbd_wire.specs.declared.end.End.TheVariants.{NoMemory, WriteFault}
use Rattle.vc_outside.specs.Told.{Grows}
use Rattle.pipe_lane.specs.Lanes.{reply_of}
use Rattle.pipe_lane.specs.declared.lane.Stage.{Stage}
use Rattle.pipe_lane.specs.declared.lane.Stage.TheVariants.{Done}

abbrev pub replies_in : Stage → List (List ℕ)
replies_in (Done r) = reply_of r ∷ []
replies_in other = []

pub record SentInPart (held now : Option (List ℕ)) (rs : List (List ℕ)) (n : ℕ) (how : End) : Type 0 where
  pub refused : n < length rs
  pub size : ℕ
  pub in_part : size < length (get_or rs n [])
  pub output : Grows held now (concat (take n rs) ++ take size (get_or rs n []))
  pub cause : (how ≡ WriteFault) ⊎ (how ≡ NoMemory)

abbrev pub IsSent : Option (List ℕ) → Option (List ℕ) → List (List ℕ) → ℕ → Option End → Type 0
IsSent held now rs n None = (n ≡ length rs) × Grows held now (concat rs)
IsSent held now rs n (Some how) = SentInPart held now rs n how
