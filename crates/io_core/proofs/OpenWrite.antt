-- One pending write among the others: its place among the open writes, and its units apart from theirs.
use Rattle.std.proofs.Common.{◌≡◌, ◌<◌, ℕ, ◌+◌, ◌*◌, List, ◌∷◌, ◌++◌, suc, sym, ap, subst, ◌∙◌, arith}
use Rattle.std.specs.Prelude.{map}
use Rattle.std.specs.List.{All, AllPairs, Contains}
use Rattle.std.proofs.lemmas.List.{map-append}
use Rattle.range_base.specs.Range.{IsInRange, Overlap}
use Rattle.vc_outside.specs.declared.store.Store.{Ghosts as StoreGhosts}
use Rattle.cipher_base.specs.declared.unit.UnitCipher.{Ghosts as CipherGhosts}
use Rattle.sector_model.specs.Array.{sectors_of, units_of, Volume}
use Rattle.sector_model.specs.History.{open_writes, Write}
use Rattle.sector_model.specs.declared.entry.Entry.{Entry}
use Rattle.io_core.specs.State.{IsPlacedWrite, State, write_of}
use Rattle.io_core.specs.Sound.{Sound, volume}
use Rattle.io_core.specs.declared.prepared.Prepared.{Prepared}
use Rattle.io_core.proofs.Apart.{turned, units_apart, units_of_sectors}
use Rattle.io_core.proofs.Elements.{at_element, element_right, first_element}
use Rattle.io_core.proofs.OneMoreMark.{all_left, all_right}
use Rattle.io_core.proofs.Replaced.{pairs_above, pairs_below}

module _ {S C : Type 0} (store : StoreGhosts S) (cipher : CipherGhosts C) (base : State S C) (h : List Entry) (s : State S C)
    (sound : Sound store cipher base h s) (p : Prepared) (below above : List Prepared) (was : s.pending ≡ below ++ p ∷ above) where
  abbrev lower : List Write
  lower = map write_of below

  abbrev upper : List Write
  upper = map write_of above

  pub opens_are : open_writes h ≡ lower ++ write_of p ∷ upper
  opens_are = sym sound.writes ∙ ap (map write_of) was ∙ map-append write_of below (p ∷ above)

  pub is_open : Contains (open_writes h) (write_of p)
  is_open = subst (λ l. Contains l (write_of p)) (sym opens_are) (element_right lower (write_of p ∷ upper) (write_of p) (first_element (write_of p) upper))

  pub all_placed : All (IsPlacedWrite (volume base)) (lower ++ write_of p ∷ upper)
  all_placed = subst (All (IsPlacedWrite (volume base))) opens_are sound.placed

  pub mine : IsPlacedWrite (volume base) (write_of p)
  mine = at_element (IsPlacedWrite (volume base)) (open_writes h) (write_of p) sound.placed is_open

  -- a unit of another pending write isn't one of this write
  abbrev pub IsBeside : Write → Type 0
  IsBeside x = (j : ℕ) → j < units_of x.bytes
      → ¬ IsInRange ((volume base).per_sector * p.first) (units_of p.bytes.items) ((volume base).per_sector * x.first + j)

  beside : (x : Write) → IsPlacedWrite (volume base) x
      → ¬ Overlap x.first (sectors_of (volume base) x.bytes) p.first (sectors_of (volume base) p.bytes.items) → IsBeside x
  beside x x_placed none j within here =
      let v : Volume = volume base in
      units_apart v.per_sector x.first (sectors_of v x.bytes) p.first (sectors_of v p.bytes.items) (v.per_sector * x.first + j) none
      (subst (λ (m : ℕ). IsInRange (v.per_sector * x.first) m (v.per_sector * x.first + j)) (units_of_sectors v x.bytes x_placed.whole)
      (record { from = omega arith; below = omega arith }))
      (subst (λ (m : ℕ). IsInRange (v.per_sector * p.first) m (v.per_sector * x.first + j)) (units_of_sectors v p.bytes.items mine.whole) here)

  abbrev Apart : Write → Write → Type 0
  Apart x y = ¬ Overlap x.first (sectors_of (volume base) x.bytes) y.first (sectors_of (volume base) y.bytes)

  pub all_apart : AllPairs Apart (lower ++ write_of p ∷ upper)
  all_apart = subst (AllPairs Apart) opens_are sound.apart

  pub lower_beside : All IsBeside lower
  lower_beside k d within =
      beside _ (all_left (IsPlacedWrite (volume base)) lower (write_of p ∷ upper) all_placed k d within)
      (pairs_below Apart lower upper (write_of p) all_apart k d within)

  pub upper_beside : All IsBeside upper
  upper_beside k d within =
      beside _ (all_right (IsPlacedWrite (volume base)) lower (write_of p ∷ upper) all_placed (suc k) d (omega arith))
      (turned p.first (sectors_of (volume base) p.bytes.items) _ _ (pairs_above Apart lower upper (write_of p) all_apart k d within))
