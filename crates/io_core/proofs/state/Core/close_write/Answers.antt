use Rattle.std.proofs.Common.{rules, ◌≡◌, ◌≢◌, ◌<◌, ℕ, suc, ◌++◌, List, Option, Some, get_or, length, take, drop, refl, sym, ap, subst, ◌∙◌}
use Rattle.std.specs.List.{Contains}
use Rattle.std.proofs.lemmas.List.{get_or_read}
use Rattle.range_book.specs.declared.reserved.Reserved.{Reserved}
use Rattle.vc_layout.specs.declared.geometry.Geometry.{Geometry}
use Rattle.sector_model.specs.History.{HasName}
use Rattle.io_core.specs.Closings.{close_entries, entries_of, IsClosed, IsEndOf, pending_after}
use Rattle.io_core.specs.Laws.StateOf.{answer_to, state_of}
use Rattle.io_core.specs.Laws.Invariant.{range_of}
use Rattle.io_core.specs.Named.{named}
use Rattle.io_core.specs.Sound.{Sound}
use Rattle.io_core.specs.State.{IsPlaced, State, volume_of, write_of}
use Rattle.io_core.specs.declared.answers.Close.{Close}
use Rattle.io_core.specs.declared.answers.Close.TheVariants as close
use Rattle.io_core.specs.declared.part.PartState.{PartState}
use Rattle.io_core.specs.declared.part.PartState.TheVariants.{Waiting, Stored, Spoilt}
use Rattle.io_core.specs.declared.prepared.Prepared.{Prepared}
use Rattle.io_core.proofs.Closed.{sound_answered}
use Rattle.io_core.proofs.Elements.{mapped_element}
use Rattle.io_core.proofs.EndedMarks.{end_by_state}
use Rattle.io_core.proofs.Found.{the_found}
use Rattle.io_core.proofs.Named.{found, IsFound}
use Rattle.io_core.proofs.Released.{core_closed, parted}
use Rattle.io_core.proofs.state.Core.close_write.Goals as goal

-- an answer other than Waiting leaves the others
only_others : (x : PartState) (w : Prepared) (old rest : List Prepared) → x ≢ Waiting → pending_after (answer_to x w) old rest ≡ rest
only_others Waiting w old rest some = absurd (some refl)
only_others Stored w old rest some = refl
only_others (Spoilt m) w old rest some = refl

pub release-requires : goal.release-requires
release-requires g c =
    let ps : List Prepared = c.self.inside.pending.items in
    let d : Prepared = c.index.result.now in
    let within : c.in-Some.at < length ps = subst (λ (l : List Prepared). c.in-Some.at < length l) c.deref.ensures.value c.in-Some.ensures.bound in
    let here : HasName c.args.caller c.args.number (write_of d)
    = subst (λ (p : Prepared). HasName c.args.caller c.args.number (write_of p)) (sym c.index.ensures)
    (subst (λ (l : List Prepared). HasName c.args.caller c.args.number (write_of (get_or l c.in-Some.at d))) c.deref.ensures.value (c.in-Some.ensures.found d)) in
    let f : Prepared → Reserved = range_of (volume_of c.self.inside.geometry c.self.inside.guard.range) in
    let booked : Contains c.self.inside.book.ranges (f d)
    = (c.self.invariant.booked (f d)).1 (mapped_element f ps d (c.in-Some.at, within, sym c.index.ensures)) in
    record { reserved = (booked.0, f d, booked.1, booked.2, here) }

pub returns-in-Waiting-clause-closed : goal.returns-in-Waiting-clause-closed
returns-in-Waiting-clause-closed g c =
    let ps : List Prepared = c.self.inside.pending.items in
    let d : Prepared = c.index.result.now in
    let within : c.in-Some.at < length ps = subst (λ (l : List Prepared). c.in-Some.at < length l) c.deref.ensures.value c.in-Some.ensures.bound in
    let here : HasName c.args.caller c.args.number (write_of d)
    = subst (λ (p : Prepared). HasName c.args.caller c.args.number (write_of p)) (sym c.index.ensures)
    (subst (λ (l : List Prepared). HasName c.args.caller c.args.number (write_of (get_or l c.in-Some.at d))) c.deref.ensures.value (c.in-Some.ensures.found d)) in
    let waits : state_of d.parts.items ≡ Waiting = search rules in
    let closed : IsClosed c.args.caller c.args.number close.Waiting ps ps = record {
      below = take c.in-Some.at ps;
      above = drop (suc c.in-Some.at) ps;
      write = d;
      was = parted ps c.in-Some.at d within c.index.ensures;
      name = here;
      outcome = end_by_state d Waiting waits;
      now = refl;
    } in
    subst (λ (s : State _ _). IsClosed c.args.caller c.args.number close.Waiting s.pending s.pending) c.self.view_is closed

pub returns-clause-closed : goal.returns-clause-closed
returns-clause-closed g c =
    let ps : List Prepared = c.self.inside.pending.items in
    let p : Prepared = c.remove-write.result in
    let within : c.in-Some.at < length ps = subst (λ (l : List Prepared). c.in-Some.at < length l) c.deref.ensures.value c.in-Some.ensures.bound in
    let here : HasName c.args.caller c.args.number (write_of p)
    = subst (λ (x : Prepared). HasName c.args.caller c.args.number (write_of x)) (sym c.remove-write.ensures.value)
    (subst (λ (l : List Prepared). HasName c.args.caller c.args.number (write_of (get_or l c.in-Some.at p))) c.deref.ensures.value (c.in-Some.ensures.found p)) in
    let same : c.index.result.now ≡ p = get_or_read ps c.in-Some.at c.index.result.now within c.index.ensures p ∙ sym c.remove-write.ensures.value in
    let state : c.state_of-state.result ≡ state_of p.parts.items
    = c.state_of-state.ensures ∙ ap (λ (l : List PartState). state_of l) c.deref-2.ensures.value ∙ ap (λ (x : Prepared). state_of x.parts.items) same in
    let rest : List Prepared = take c.in-Some.at ps ++ drop (suc c.in-Some.at) ps in
    let closed : IsClosed c.args.caller c.args.number c.answer_to.result ps c.remove-write.new.self.items = record {
      below = take c.in-Some.at ps;
      above = drop (suc c.in-Some.at) ps;
      write = p;
      was = parted ps c.in-Some.at p within c.remove-write.ensures.value;
      name = here;
      outcome = subst (IsEndOf p) (sym c.answer_to.ensures) (end_by_state p c.state_of-state.result (sym state));
      now = c.remove-write.ensures.items
          ∙ sym (ap (λ (a : Close). pending_after a ps rest) c.answer_to.ensures ∙ only_others c.state_of-state.result p ps rest c.in_default-state.not-Waiting);
    } in
    subst (λ (s : State _ _). IsClosed c.args.caller c.args.number c.answer_to.result s.pending c.remove-write.new.self.items) c.self.view_is closed

pub invariant_of-self : goal.invariant_of-self
invariant_of-self g c =
    let ps : List Prepared = c.self.inside.pending.items in
    let p : Prepared = c.remove-write.result in
    let within : c.in-Some.at < length ps = subst (λ (l : List Prepared). c.in-Some.at < length l) c.deref.ensures.value c.in-Some.ensures.bound in
    let here : HasName c.args.caller c.args.number (write_of p)
    = subst (λ (x : Prepared). HasName c.args.caller c.args.number (write_of x)) (sym c.remove-write.ensures.value)
    (subst (λ (l : List Prepared). HasName c.args.caller c.args.number (write_of (get_or l c.in-Some.at p))) c.deref.ensures.value (c.in-Some.ensures.found p)) in
    let r = c.release.ensures.removed in
    core_closed (g.S.Store.size c.self.inside.disk) c.self.inside.geometry c.self.inside.guard.range c.self.inside.book c.release.new.self
    c.self.inside.pending c.remove-write.new.self c.self.inside.capacity c.self.inside.room p (take c.in-Some.at ps) (drop (suc c.in-Some.at) ps)
    c.self.invariant (parted ps c.in-Some.at p within c.remove-write.ensures.value) c.remove-write.ensures.items c.remove-write.ensures.capacity
    r.0 (r.1.0 ∙ sym here.0, r.1.1 ∙ sym here.1) r.2 c.release.ensures.apart c.release.ensures.spare

pub returns-clause-sound : goal.returns-clause-sound
returns-clause-sound g c base h sound =
    let s : State _ _ = record {
      disk = c.self.inside.disk;
      cipher = c.self.inside.cipher;
      geometry = c.self.inside.geometry;
      guard = c.self.inside.guard;
      pending = c.self.inside.pending.items;
      capacity = c.self.inside.capacity;
    } in
    let was : Sound g.S.Store g.C.UnitCipher base h s = subst (λ (t : State _ _). Sound g.S.Store g.C.UnitCipher base h t) (sym c.self.view_is) sound in
    let ps : List Prepared = c.self.inside.pending.items in
    let p : Prepared = c.remove-write.result in
    let below : List Prepared = take c.in-Some.at ps in
    let above : List Prepared = drop (suc c.in-Some.at) ps in
    let within : c.in-Some.at < length ps = subst (λ (l : List Prepared). c.in-Some.at < length l) c.deref.ensures.value c.in-Some.ensures.bound in
    let here : HasName c.args.caller c.args.number (write_of (get_or ps c.in-Some.at p))
    = subst (λ (l : List Prepared). HasName c.args.caller c.args.number (write_of (get_or l c.in-Some.at p))) c.deref.ensures.value (c.in-Some.ensures.found p) in
    let mine : HasName c.args.caller c.args.number (write_of p)
    = subst (λ (x : Prepared). HasName c.args.caller c.args.number (write_of x)) (sym c.remove-write.ensures.value) here in
    let f : IsFound c.args.caller c.args.number ps = found c.args.caller c.args.number ps (c.in-Some.at, p, within, sym c.remove-write.ensures.value, mine) in
    let is_it : named c.args.caller c.args.number ps ≡ Some p
    = f.is ∙ ap Some (sym (c.remove-write.ensures.value
    ∙ the_found c.args.caller c.args.number ps c.self.invariant.names (λ x. x ≡ f.write) c.in-Some.at p within here f.any)) in
    let same : c.index.result.now ≡ p = get_or_read ps c.in-Some.at c.index.result.now within c.index.ensures p ∙ sym c.remove-write.ensures.value in
    let state : c.state_of-state.result ≡ state_of p.parts.items
    = c.state_of-state.ensures ∙ ap (λ (l : List PartState). state_of l) c.deref-2.ensures.value ∙ ap (λ (x : Prepared). state_of x.parts.items) same in
    let placed : IsPlaced (g.S.Store.size base.disk) base.geometry
    = subst (λ (n : ℕ). IsPlaced n base.geometry) was.size_same
    (subst (λ (f : Geometry). IsPlaced (g.S.Store.size c.self.inside.disk) f) was.geometry_same c.self.invariant.placed) in
    let ended : Sound g.S.Store g.C.UnitCipher base (h ++ entries_of g.S.Store g.C.UnitCipher s p.caller p.number (answer_to c.state_of-state.result p) (Some p)) (record s { pending = below ++ above })
    = sound_answered g.S.Store g.C.UnitCipher base h s was p below above (parted ps c.in-Some.at p within c.remove-write.ensures.value) c.self.invariant.names
    placed (g.S.Store.size c.self.inside.disk) was.size_same (g.met.C.UnitCipher.deciphered_is_unit base.cipher)
    c.state_of-state.result state c.in_default-state.not-Waiting c.len.ensures.bytes in
    subst (λ (t : State _ _). Sound g.S.Store g.C.UnitCipher base (h ++ close_entries g.S.Store g.C.UnitCipher t c.args.caller c.args.number c.answer_to.result) (record s { pending = c.remove-write.new.self.items })) c.self.view_is
    (subst (λ (l : List Prepared). Sound g.S.Store g.C.UnitCipher base (h ++ close_entries g.S.Store g.C.UnitCipher s c.args.caller c.args.number c.answer_to.result) (record s { pending = l })) (sym c.remove-write.ensures.items)
    (subst (λ (o : Option Prepared). Sound g.S.Store g.C.UnitCipher base (h ++ entries_of g.S.Store g.C.UnitCipher s c.args.caller c.args.number c.answer_to.result o) (record s { pending = below ++ above })) (sym is_it)
    (subst (λ (k : ℕ). Sound g.S.Store g.C.UnitCipher base (h ++ entries_of g.S.Store g.C.UnitCipher s k c.args.number c.answer_to.result (Some p)) (record s { pending = below ++ above })) mine.0
    (subst (λ (k : ℕ). Sound g.S.Store g.C.UnitCipher base (h ++ entries_of g.S.Store g.C.UnitCipher s p.caller k c.answer_to.result (Some p)) (record s { pending = below ++ above })) mine.1
    (subst (λ (a : Close). Sound g.S.Store g.C.UnitCipher base (h ++ entries_of g.S.Store g.C.UnitCipher s p.caller p.number a (Some p)) (record s { pending = below ++ above })) (sym c.answer_to.ensures) ended)))))
