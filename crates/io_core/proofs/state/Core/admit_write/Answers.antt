use Rattle.std.proofs.Common.{rules, ◌≡◌, ℕ, ◌/◌, true, false, List, [], ◌∷◌, ◌++◌, refl, sym, ap, subst, ◌∙◌, arith}
use Rattle.std.specs.List.{All}
use Rattle.range_book.specs.Book.{IsAdded, Meets}
use Rattle.sector_model.specs.History.{HasName}
use Rattle.sector_model.specs.declared.entry.Entry.{Entry}
use Rattle.io_core.specs.declared.prepared.Prepared.{Prepared}
use Rattle.sector_model.specs.Array.{sectors_of, TouchesProtected, Volume}
use Rattle.sector_model.specs.Plain.{entry}
use Rattle.sector_model.specs.declared.entry.Event.TheVariants.{Deny, Put, Shut}
use Rattle.io_core.specs.State.{HasPlace, IsPlacedWrite, Overlaps, State, volume_of, write_of}
use Rattle.io_core.specs.Sound.{Sound, volume}
use Rattle.io_core.proofs.Admitted.{sound_deny, sound_later, sound_put, sound_shut}
use Rattle.io_core.proofs.Booked.{core_admitted, count_same, free_writes, fresh_ranges, met, none_met, not_free}
use Rattle.io_core.proofs.state.Core.admit_write.Goals as goal
use Rattle.io_core.proofs.state.Core.admit_write.Goals.{then-spare-eq0-via-then-spare-eq0, then-spare-eq0-via-else-spare-eq0+then-is_some}

pub returns-in-Frozen-clause-sound : goal.returns-in-Frozen-clause-sound
returns-in-Frozen-clause-sound g c base h sound =
    let s : State _ _ = c.args.self.now in
    let count : ℕ = sectors_of (volume s) c.args.w.bytes.items in
    let range : c.judge.new.self.range ≡ s.guard.range = search rules in
    let was : s.guard.frozen ≡ true = search rules in
    let now : c.judge.new.self.frozen ≡ true = search rules in
    subst (λ (t : State _ _). Sound g.S.Store g.C.UnitCipher base (h ++ entry c.args.w.caller c.args.w.number (Shut c.args.w.first count) ∷ []) (record t { guard = c.judge.new.self }))
    (sym c.self.view_is)
    (sound_shut g.S.Store g.C.UnitCipher base h s sound c.judge.new.self range c.args.w.caller c.args.w.number c.args.w.first count c.requires.fits was now)

pub returns-in-Denied-clause-sound : goal.returns-in-Denied-clause-sound
returns-in-Denied-clause-sound g c base h sound =
    let s : State _ _ = c.args.self.now in
    let count : ℕ = sectors_of (volume s) c.args.w.bytes.items in
    let range : c.judge.new.self.range ≡ s.guard.range = search rules in
    let was : s.guard.frozen ≡ false = search rules in
    let now : c.judge.new.self.frozen ≡ true = search rules in
    let touches : TouchesProtected (volume s) c.args.w.first count = search rules in
    subst (λ (t : State _ _). Sound g.S.Store g.C.UnitCipher base (h ++ entry c.args.w.caller c.args.w.number (Deny c.args.w.first count) ∷ []) (record t { guard = c.judge.new.self }))
    (sym c.self.view_is)
    (sound_deny g.S.Store g.C.UnitCipher base h s sound c.judge.new.self range c.args.w.caller c.args.w.number c.args.w.first count c.requires.fits was now touches)

pub returns-then-spare-eq0-clause-sound : goal.returns-then-spare-eq0-clause-sound
returns-then-spare-eq0-clause-sound g c base h sound =
    let s : State _ _ = c.args.self.now in
    let range : c.judge.new.self.range ≡ s.guard.range = search rules in
    let frozen : c.judge.new.self.frozen ≡ s.guard.frozen = search rules in
    subst (λ (t : State _ _). Sound g.S.Store g.C.UnitCipher base (h ++ []) (record t { guard = c.judge.new.self })) (sym c.self.view_is)
    (sound_later g.S.Store g.C.UnitCipher base h s sound c.judge.new.self range frozen)

pub reserve-requires-clause-fresh : goal.reserve-requires-clause-fresh
reserve-requires-clause-fresh g c =
    fresh_ranges (volume_of c.self.inside.geometry c.self.inside.guard.range) c.self.inside.book.ranges c.self.inside.pending.items
    c.self.invariant.booked c.args.w.caller c.args.w.number
    (subst (λ (t : State _ _). All (λ p. ¬ HasName c.args.w.caller c.args.w.number (write_of p)) t.pending) (sym c.self.view_is) c.requires.fresh)

pub returns-then-spare-eq0-clause-later : goal.returns-then-spare-eq0-clause-later
returns-then-spare-eq0-clause-later g c =
    let s : State _ _ = c.args.self.now in
    let v : Volume = volume_of c.self.inside.geometry c.self.inside.guard.range in
    let count : ℕ = sectors_of (volume s) c.args.w.bytes.items in
    let thawed : s.guard.frozen ≡ false = search rules in
    let apart : ¬ TouchesProtected (volume s) c.args.w.first count = search rules in
    let same : c.len.result / 512 / (c.from-units.result / 512) ≡ count
    = count_same _ _ _ _ _ (omega (arith, c.len.ensures, c.args.w.bytes.ok.0)) c.from-units.ensures (ap (λ (t : State _ _). t.geometry.sector) c.self.view_is) in
    let no_place : ¬ HasPlace s c.args.w.first count = λ place.
    let there : HasPlace _ c.args.w.first count = subst (λ (t : State _ _). HasPlace t c.args.w.first count) (sym c.self.view_is) place in
    elim c.then-spare-eq0.branch [
      | then-spare-eq0-via-then-spare-eq0 w ↦ absurd (omega (arith, there.room, c.self.invariant.spare, c.spare.ensures, w.if-spare-eq0.true))
      | then-spare-eq0-via-else-spare-eq0+then-is_some w ↦
          let r = met w.meets.result c.args.w.first (c.len.result / 512 / (c.from-units.result / 512)) c.self.inside.book.ranges (sym w.is_some.ensures ∙ w.if-is_some.true) w.meets.ensures.lowest in
          not_free v c.self.inside.book.ranges c.self.inside.pending.items c.self.invariant.booked c.args.w.first count r.0 r.1
          (subst (λ (n : ℕ). Meets c.args.w.first n r.0) same r.2) there.free
    ] in
    (λ _. (thawed, apart, no_place), λ _. refl)

pub returns-clause-later : goal.returns-clause-later
returns-clause-later g c =
    let s : State _ _ = c.args.self.now in
    let v : Volume = volume_of c.self.inside.geometry c.self.inside.guard.range in
    let count : ℕ = sectors_of (volume s) c.args.w.bytes.items in
    let same : c.len.result / 512 / (c.from-units.result / 512) ≡ count
    = count_same _ _ _ _ _ (omega (arith, c.len.ensures, c.args.w.bytes.ok.0)) c.from-units.ensures (ap (λ (t : State _ _). t.geometry.sector) c.self.view_is) in
    let free : All (λ p. ¬ Overlaps v c.args.w.first count p) c.self.inside.pending.items
    = free_writes v c.self.inside.book.ranges c.self.inside.pending.items c.self.invariant.booked c.args.w.first count
    (subst (λ (n : ℕ). All (λ r. ¬ Meets c.args.w.first n r) c.self.inside.book.ranges) same
    (c.meets.ensures.none.0 (none_met c.meets.result (sym c.if-is_some.ensures)))) in
    let place : HasPlace s c.args.w.first count = subst (λ (t : State _ _). HasPlace t c.args.w.first count) c.self.view_is
    (record { room = omega (arith, c.self.invariant.spare, c.spare.ensures, c.if-spare-eq0.false); free = free }) in
    (λ e. cc, λ no. absurd (no.2 place))

pub invariant_of-self-2 : goal.invariant_of-self-2
invariant_of-self-2 g c =
    let s : State _ _ = c.args.self.now in
    let v : Volume = volume_of c.self.inside.geometry c.self.inside.guard.range in
    let apart : ¬ TouchesProtected (volume s) c.args.w.first (sectors_of (volume s) c.args.w.bytes.items) = search rules in
    let placed : IsPlacedWrite (volume s) (write_of c.args.w) = record { whole = c.requires.whole; fits = c.requires.fits; unprotected = apart } in
    let same : c.len.result / 512 / (c.from-units.result / 512) ≡ sectors_of v c.args.w.bytes.items
    = count_same _ _ _ _ _ (omega (arith, c.len.ensures, c.args.w.bytes.ok.0)) c.from-units.ensures refl in
    core_admitted (g.S.Store.size c.self.inside.disk) c.self.inside.geometry c.self.inside.guard.range c.judge.new.self.range
    c.self.inside.book c.reserve.new.self c.self.inside.pending c.push.new.self c.self.inside.capacity c.self.inside.room c.args.w
    c.self.invariant c.judge.ensures.range (subst (λ (t : State _ _). IsPlacedWrite (volume t) (write_of c.args.w)) (sym c.self.view_is) placed)
    (subst (λ (n : ℕ). IsAdded (record { caller = c.args.w.caller; number = c.args.w.number; first = c.args.w.first; count = n }) c.self.inside.book.ranges c.reserve.new.self.ranges) same c.reserve.ensures.added)
    c.reserve.ensures.apart c.reserve.ensures.spare
    (subst (λ (t : State _ _). All (λ p. ¬ HasName c.args.w.caller c.args.w.number (write_of p)) t.pending) (sym c.self.view_is) c.requires.fresh) c.in-Ok.ensures.items (omega (arith, c.self.invariant.place, c.push.ensures.capacity))

pub returns-clause-sound : goal.returns-clause-sound
returns-clause-sound g c base h sound =
    let s : State _ _ = c.args.self.now in
    let v : Volume = volume_of c.self.inside.geometry c.self.inside.guard.range in
    let w : Prepared = c.args.w in
    let count : ℕ = sectors_of v w.bytes.items in
    let range : c.judge.new.self.range ≡ s.guard.range = search rules in
    let was : s.guard.frozen ≡ false = search rules in
    let now : c.judge.new.self.frozen ≡ false = search rules in
    let apart : ¬ TouchesProtected (volume s) w.first (sectors_of (volume s) w.bytes.items) = search rules in
    let same : c.len.result / 512 / (c.from-units.result / 512) ≡ count
    = count_same _ _ _ _ _ (omega (arith, c.len.ensures, c.args.w.bytes.ok.0)) c.from-units.ensures refl in
    let free : All (λ p. ¬ Overlaps v w.first count p) c.self.inside.pending.items
    = free_writes v c.self.inside.book.ranges c.self.inside.pending.items c.self.invariant.booked w.first count
    (subst (λ (n : ℕ). All (λ r. ¬ Meets w.first n r) c.self.inside.book.ranges) same
    (c.meets.ensures.none.0 (none_met c.meets.result (sym c.if-is_some.ensures)))) in
    let free_now : All (λ p. ¬ Overlaps (volume s) w.first (sectors_of (volume s) w.bytes.items) p) s.pending
    = subst (λ (t : State _ _). All (λ p. ¬ Overlaps (volume t) w.first (sectors_of (volume t) w.bytes.items) p) t.pending) c.self.view_is free in
    let put : List Entry = h ++ entry w.caller w.number (Put w.first w.bytes.items) ∷ [] in
    let after : Sound g.S.Store g.C.UnitCipher base put (record s { pending = s.pending ++ w ∷ []; guard = c.judge.new.self })
    = sound_put g.S.Store g.C.UnitCipher base h s sound w c.judge.new.self range was now c.requires.whole c.requires.fits apart c.requires.fresh free_now c.requires.waiting in
    let inside : Sound g.S.Store g.C.UnitCipher base put (record { disk = c.self.inside.disk; cipher = c.self.inside.cipher; geometry = c.self.inside.geometry; guard = c.judge.new.self; pending = c.self.inside.pending.items ++ w ∷ []; capacity = c.self.inside.capacity })
    = subst (λ (t : State _ _). Sound g.S.Store g.C.UnitCipher base put (record t { pending = t.pending ++ w ∷ []; guard = c.judge.new.self })) (sym c.self.view_is) after in
    subst (λ (ps : List Prepared). Sound g.S.Store g.C.UnitCipher base put
    (record { disk = c.self.inside.disk; cipher = c.self.inside.cipher; geometry = c.self.inside.geometry; guard = c.judge.new.self; pending = ps; capacity = c.self.inside.capacity }))
    (sym c.in-Ok.ensures.items) inside
