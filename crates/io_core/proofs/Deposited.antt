-- A fragment is stored, or its write failed.
--
-- Either way the container differs in the fragment's units alone. These are units of one pending write, which no
-- other pending write has and none of which is protected. So all that is said of other units stays. If the fragment
-- was stored, its own units now decipher to its data.
use Rattle.std.proofs.Common.{◌≡◌, ◌≤◌, ℕ, suc, ◌+◌, ◌*◌, ◌/◌, List, [], ◌∷◌, ◌++◌, Option, Some, None, get_or, set, sym, ap, subst, ◌∙◌, arith, mul-le-mul_left, append-nil, append_assoc}
use Rattle.std.specs.Prelude.{slice_get}
use Rattle.std.specs.List.{All, Contains}
use Rattle.range_base.specs.Range.{IsInRange}
use Rattle.hidden_guard.specs.Protection.{Touches}
use Rattle.vc_outside.specs.Told.{Both}
use Rattle.vc_outside.specs.declared.store.Store.{Ghosts as StoreGhosts}
use Rattle.cipher_base.specs.declared.unit.UnitCipher.{Ghosts as CipherGhosts}
use Rattle.sector_model.specs.Array.{sectors_of, units_of, Volume}
use Rattle.sector_model.specs.History.{open_writes, Write}
use Rattle.sector_model.specs.Marks.{AreMarks, marks_in}
use Rattle.sector_model.specs.declared.entry.FaultMark.{FaultMark}
use Rattle.sector_model.specs.declared.entry.Entry.{Entry}
use Rattle.sector_model.proofs.Overwritten.{whole_units}
use Rattle.io_core.specs.State.{IsPlaced, IsPlacedWrite, State, write_of}
use Rattle.io_core.specs.Sound.{Contents, mark_of, marks_pending, plain, SameElsewhere, Sound, StoredHolds, volume}
use Rattle.io_core.specs.Laws.Sealed.{IsOutcome}
use Rattle.io_core.specs.declared.part.PartState.{PartState}
use Rattle.io_core.specs.declared.part.PartState.TheVariants.{Waiting, Stored, Spoilt}
use Rattle.io_core.specs.declared.prepared.Prepared.{Prepared}
use Rattle.io_core.proofs.OpenWrite as among
use Rattle.io_core.proofs.Known.{both_step}
use Rattle.io_core.proofs.Apart.{units_of_sectors}
use Rattle.io_core.proofs.Elements.{all_unmapped, at_element, element_right, first_element}
use Rattle.io_core.proofs.OneMoreMark.{all_left, all_right, marks_later, one_more_mark}
use Rattle.io_core.proofs.Replaced.{all_replaced, IsInserted, IsReplaced, map_replaced, marks_replaced}
use Rattle.io_core.proofs.Rewritten.{Rewrites}

-- units of a placed write, in the container: they aren't protected, and lie in the volume
protected_apart : (range : Option (ℕ × ℕ)) (first count u : ℕ) → ¬ Touches range first count → Touches range u 1
    → ¬ IsInRange first count u
protected_apart None first count u apart touches here = touches
protected_apart (Some r) first count u apart touches here =
    let at : touches.common ≡ u = omega (arith, touches.in_first.from, touches.in_first.below) in
    apart (record { common = u; in_first = here; in_other = subst (λ k. IsInRange r.0 r.1 k) at touches.in_other })

module _ {S C : Type 0} (store : StoreGhosts S) (cipher : CipherGhosts C) (base : State S C) (h : List Entry) (s : State S C)
    (placed : IsPlaced (store.size base.disk) base.geometry) (sound : Sound store cipher base h s)
    (p q : Prepared) (pending : List Prepared) (r : IsReplaced p q s.pending pending) (same : write_of q ≡ write_of p) where
  abbrev per : ℕ
  per = base.geometry.sector / 512

  abbrev start : ℕ
  start = base.geometry.start / 512

  abbrev v : Volume
  v = volume base

  abbrev Beside : Write → Type 0
  Beside x = among.IsBeside store cipher base h s sound p r.below r.above r.was x

  mine : IsPlacedWrite v (write_of p)
  mine = among.mine store cipher base h s sound p r.below r.above r.was

  module _ (first n : ℕ) (from : start + per * p.first ≤ first) (to : first + n ≤ start + per * p.first + units_of p.bytes.items)
      (old new : List ℕ) (rewrites : Rewrites first n old new) where
    -- a unit outside of the write deciphers to what it did
    plain_same : (u : ℕ) → ¬ IsInRange (per * p.first) (units_of p.bytes.items) u
        → plain store cipher base.cipher base.geometry new u ≡ plain store cipher base.cipher base.geometry old u
    plain_same u out = ap (cipher.deciphered base.cipher (start + u)) (rewrites.others (start + u)
        (λ inside. out (record { from = omega (arith, inside.from); below = omega (arith, inside.below) })))

    other_stored : (x : Prepared) → Beside (write_of x)
        → StoredHolds store cipher base.cipher base.geometry old x → StoredHolds store cipher base.cipher base.geometry new x
    other_stored x beside holds j within is = plain_same (per * x.first + j) (beside j within) ∙ holds j within is

    elsewhere : (opening : List ℕ) → SameElsewhere base.geometry base.guard.range opening old
        → SameElsewhere base.geometry base.guard.range opening new
    elsewhere opening e = record {
      as_long = rewrites.as_long ∙ e.as_long;
      before = rewrites.before base.geometry.start (omega (arith, placed.start)) ∙ e.before;
      behind = rewrites.behind (base.geometry.start + base.geometry.sectors * base.geometry.sector) past ∙ e.behind;
      protected = λ u touches. rewrites.others u
          (λ inside. protected_apart base.guard.range (start + per * p.first) (per * sectors_of v p.bytes.items) u mine.unprotected touches
          (record { from = omega (arith, inside.from); below = omega (arith, inside.below, units_of_sectors v p.bytes.items mine.whole) }))
          ∙ e.protected u touches;
    }
      where
        past : 512 * (first + n) ≤ base.geometry.start + base.geometry.sectors * base.geometry.sector
        past =
            let size : base.geometry.sector ≡ 512 * per = whole_units base.geometry.sector placed.sector in
            let rows : per * (p.first + sectors_of v p.bytes.items) ≤ per * base.geometry.sectors = mul-le-mul_left per mine.fits in
            let bytes : base.geometry.sectors * base.geometry.sector ≡ 512 * (per * base.geometry.sectors)
            = ap (λ (m : ℕ). base.geometry.sectors * m) size ∙ omega arith in
            omega (arith, placed.start, units_of_sectors v p.bytes.items mine.whole)

    pub contents_deposit : (opening : List ℕ) (disk : S) → StoredHolds store cipher base.cipher base.geometry new q
        → Contents store cipher base h s opening old → Contents store cipher base h (record s { disk = disk; pending = pending }) opening new
    contents_deposit opening disk holds c =
        let P : Prepared → Type 0 = StoredHolds store cipher base.cipher base.geometry old in
        let Q : Prepared → Type 0 = StoredHolds store cipher base.cipher base.geometry new in
        let each : All P (r.below ++ p ∷ r.above) = subst (All P) r.was c.stored in
        let lower : All (λ x. Beside (write_of x)) r.below
        = all_unmapped write_of Beside r.below (among.lower_beside store cipher base h s sound p r.below r.above r.was) in
        let upper : All (λ x. Beside (write_of x)) r.above
        = all_unmapped write_of Beside r.above (among.upper_beside store cipher base h s sound p r.below r.above r.was) in
        record {
          told = c.told;
          under = c.under;
          clear = λ u none.
              let out : ¬ IsInRange (per * p.first) (units_of p.bytes.items) u
              = at_element (λ w. ¬ IsInRange (per * w.first) (units_of w.bytes) u) (open_writes h) (write_of p) none
              (among.is_open store cipher base h s sound p r.below r.above r.was) in
              plain_same u out ∙ c.clear u none;
          stored = all_replaced Q p q s.pending pending r
              (λ k d within. other_stored (get_or r.below k d) (lower k d within) (all_left P r.below (p ∷ r.above) each k d within))
              holds
              (λ k d within. other_stored (get_or r.above k d) (upper k d within) (all_right P r.below (p ∷ r.above) each (suc k) d (omega arith)));
          elsewhere = elsewhere opening c.elsewhere;
        }

marks_deposit : (a b c : ℕ) (hs old new : List FaultMark) (x : PartState) → a ≤ b → b ≤ c → IsOutcome b c x
    → IsInserted (mark_of x) old new → AreMarks a b (hs ++ old) → AreMarks a c (hs ++ new)
marks_deposit a b c hs old new Waiting low later outcome i marks = absurd outcome
marks_deposit a b c hs old new Stored low later outcome i marks =
    marks_later a b c (hs ++ new) later (subst (λ l. AreMarks a b (hs ++ l)) (i.was ∙ sym (i.now ∙ ap (λ l. l ++ i.above) (append-nil i.below))) marks)
marks_deposit a b c hs old new (Spoilt m) low later outcome i marks =
    let parted : AreMarks a b ((hs ++ i.below) ++ i.above)
    = subst (AreMarks a b) (ap (λ l. hs ++ l) i.was ∙ sym (append_assoc hs i.below i.above)) marks in
    let whole : ((hs ++ i.below) ++ m ∷ []) ++ i.above ≡ hs ++ new
    = ap (λ l. l ++ i.above) (append_assoc hs i.below (m ∷ [])) ∙ append_assoc hs (i.below ++ m ∷ []) i.above ∙ ap (λ l. hs ++ l) (sym i.now) in
    subst (AreMarks a c) whole (one_more_mark a b c m (hs ++ i.below) i.above low later outcome.1 parted)

some_are_pending : (xs ys : List Prepared) (q : Prepared) → xs ++ q ∷ ys ≡ [] → ⊥
some_are_pending [] ys q e = cc
some_are_pending (x ∷ xs) ys q e = cc

module _ {S C : Type 0} (store : StoreGhosts S) (cipher : CipherGhosts C) where
  pub sound_deposit : (base : State S C) (h : List Entry) (s : State S C) → IsPlaced (store.size base.disk) base.geometry
      → (p q : Prepared) (pending : List Prepared) → IsReplaced p q s.pending pending → write_of q ≡ write_of p
      → (k : ℕ) (x : PartState) → slice_get p.parts.items k ≡ Some Waiting → q.parts.items ≡ set p.parts.items k x
      → (disk : S) (first n : ℕ) → base.geometry.start / 512 + base.geometry.sector / 512 * p.first ≤ first
      → first + n ≤ base.geometry.start / 512 + base.geometry.sector / 512 * p.first + units_of p.bytes.items
      → store.size disk ≡ store.size s.disk → store.faults s.disk ≤ store.faults disk
      → IsOutcome (store.faults s.disk) (store.faults disk) x
      → Both (store.image s.disk) (store.image disk) (λ old new. Rewrites first n old new
      × (StoredHolds store cipher base.cipher base.geometry old p → StoredHolds store cipher base.cipher base.geometry new q))
      → Sound store cipher base h s → Sound store cipher base h (record s { disk = disk; pending = pending })
  sound_deposit base h s placed p q pending r same k x waits parts disk first n from to size later outcome images sound =
      let t : State S C = record s { disk = disk; pending = pending } in
      record {
        ordered = sound.ordered;
        frozen = sound.frozen;
        writes = map_replaced write_of p q s.pending pending r same ∙ sound.writes;
        placed = sound.placed;
        apart = sound.apart;
        cipher_same = sound.cipher_same;
        geometry_same = sound.geometry_same;
        range_same = sound.range_same;
        capacity_same = sound.capacity_same;
        size_same = size ∙ sound.size_same;
        later = omega (arith, sound.later);
        marks = marks_deposit (store.faults base.disk) (store.faults s.disk) (store.faults disk) (marks_in h) (marks_pending s.pending) (marks_pending pending) x
            sound.later later outcome (marks_replaced p q s.pending pending k x r waits parts) sound.marks;
        contents = both_step (store.image base.disk) (store.image s.disk) (store.image disk) (Contents store cipher base h s)
            (λ old new. Rewrites first n old new × (StoredHolds store cipher base.cipher base.geometry old p → StoredHolds store cipher base.cipher base.geometry new q))
            (Contents store cipher base h t)
            (λ opening old new c step. contents_deposit store cipher base h s placed sound p q pending r same first n from to old new step.0 opening disk
            (step.1 (at_element (StoredHolds store cipher base.cipher base.geometry old) s.pending p c.stored
            (subst (λ l. Contains l p) (sym r.was) (element_right r.below (p ∷ r.above) p (first_element p r.above))))) c)
            sound.contents images;
        lasting = λ flushed none. absurd (some_are_pending r.below r.above q (sym r.now ∙ none));
      }
