-- The moments of a record are its prefixes.
use Rattle.std.proofs.Common.{ℕ, ◌≤◌, List, length, sym, subst, arith}
use Rattle.std.proofs.lemmas.List.{take_all}
use Rattle.vc_outside.specs.Memory.{Held, LeftBy, May, Since}
use Rattle.vc_outside.specs.Record.{Event}

module _ (h : Held) (c : List ℕ) where
  abbrev At : List Event → Type 0
  At es = LeftBy es h.first c

  -- now is the moment of the whole record
  pub counts_now : (t : ℕ) → t ≤ length h.events → May h c → Since h t c
  counts_now t le now = (length h.events, le, omega arith, subst At (sym (take_all (length h.events) h.events (omega arith))) now)

  -- and there is no later one
  pub only_now : Since h (length h.events) c → May h c
  only_now (k, from, to, left) = subst At (take_all k h.events from) left
