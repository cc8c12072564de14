use Rattle.std.proofs.Common.{rules, ◌≡◌, ◌∷◌, ◌+◌, ◌*◌, ◌/◌, ℕ, [], Vec, length, ap, sym, subst, ◌∙◌, arith}
use Rattle.std.specs.Prelude.{List, Result, ⊤}
use Rattle.std.specs.Global.{Global}
use Rattle.sector_model.specs.Array.{Fits, sectors_of}
use Rattle.sector_model.specs.Plain.{entry}
use Rattle.sector_model.specs.declared.entry.Entry.{Entry}
use Rattle.sector_model.specs.declared.entry.Event.TheVariants.{Put}
use Rattle.io_core.specs.State.{write_of}
use Rattle.io_core.specs.declared.answers.Admit.TheVariants as admit
use Rattle.io_queue.specs.Pass.{Call, shape}
use Rattle.io_queue.proofs.Ending.{done_adds, lost_adds, put_call}
use Rattle.io_queue.proofs.Judging.{admitted_by, is_denied, is_done, is_fault, is_frozen_now}
use Rattle.io_queue.proofs.Passes.{calls, starts, starts_after}
use Rattle.io_queue.proofs.Within.{units_from}
use Rattle.io_queue.specs.Calls.{Admitted, WriteAdds}
use Rattle.io_queue.specs.declared.error.IoError.{IoError}
use Rattle.io_queue.proofs.volume.Volume.write.Goals as goal
use Rattle.io_queue.proofs.volume.Volume.write.Goals.{in-Done, in-Lost}

pub prepare-requires-clause-units : goal.prepare-requires-clause-units
prepare-requires-clause-units g c =
    let geo = c.args.self.now.geometry in
    let fits : Fits (shape geo) c.args.first (sectors_of (shape geo) c.args.bytes.items) = search rules in
    units_from geo c.args.first c.unit_of-unit.result c.args.bytes.items c.args.self.now.place c.requires.whole fits c.unit_of-unit.ensures

pub deposit_work-requires-clause-work : goal.deposit_work-requires-clause-work
deposit_work-requires-clause-work g c = λ l κ.
    let geo = c.args.self.now.geometry in
    let fits : Fits (shape geo) c.args.first (sectors_of (shape geo) c.args.bytes.items) = search rules in (
      c.number.result,
      c.args.bytes.items,
      c.in-Some.ensures.work,
      search rules,
      units_from geo c.args.first c.unit_of-unit.result c.args.bytes.items c.args.self.now.place c.requires.whole fits c.unit_of-unit.ensures,
    )

pub end-end-requires-clause-open : goal.end-end-requires-clause-open
end-end-requires-clause-open g c = λ l κ.
    let geo = c.args.self.now.geometry in
    let w = c.in-Some.memory.write in
    let m = c.in-Some.ensures.write in
    let many : c.sectors_of-count.result ≡ sectors_of (shape geo) c.args.bytes.items = search rules in (
      write_of w,
      record {
        name = (m.0 ∙ c.number.ensures.number ∙ sym (c.deposit_work.ensures.call.same.number ∙ c.admit.ensures.call.same.number), m.1);
        place = m.2;
        sectors = ap (λ (b : Vec ℕ Global). sectors_of (shape geo) b.items) m.3 ∙ sym many;
      },
      c.deposit_work.ensures.open (write_of w ∷ []) (c.admit.ensures.admitted c.in-In.is),
    )

pub returns-after-end-clause-call : goal.returns-after-end-clause-call
returns-after-end-clause-call g c =
    let geo = c.args.self.now.geometry in
    let w = c.in-Some.memory.write in
    let m = c.in-Some.ensures.write in
    let v = c.args.pass.now.seat.me.0 in
    let a = c.admit.new.pass.seat.me.0 in
    let d = c.deposit_work.new.pass.seat.me.0 in
    let u = c.end-end.new.pass.seat.me.0 in
    let e = c.end-end.ensures.call in
    let put : Entry = entry v.number 0 (Put c.args.first c.args.bytes.items) in
    let admitted : Call v a (put ∷ []) = put_call v a (shape geo) w c.args.first c.args.bytes.items c.admit.result c.in-In.is
    (m.0 ∙ c.number.ensures.number) m.1 m.2 (ap (λ (b : Vec ℕ Global). b.items) m.3) c.admit.ensures.call in
    let both : Call v u (put ∷ e.0) = calls v d u (put ∷ []) e.0 (calls v a d (put ∷ []) [] admitted c.deposit_work.ensures.call) e.1 in
    let number : d.number ≡ v.number = c.deposit_work.ensures.call.same.number ∙ admitted.same.number in
    let many : c.sectors_of-count.result ≡ sectors_of (shape geo) c.args.bytes.items = search rules in
    let Adds : Result ⊤ IoError → Type 0
    = λ r. (es : List Entry) × Call v u es × WriteAdds (shape geo) v.number c.args.first c.args.bytes.items r es in
    elim c.match-end.branch [
      | in-Done x ↦ subst Adds (sym x.result-is) (
        put ∷ e.0,
        both,
        done_adds v.number d.number c.args.first c.sectors_of-count.result (sectors_of (shape geo) c.args.bytes.items) put e.0
            c.end-end.result _ x.in-Done.is number many e.2,
      )
      | in-Lost x ↦ subst Adds (sym x.result-is) (
        put ∷ e.0,
        both,
        lost_adds v.number d.number c.args.first c.sectors_of-count.result put e.0 c.end-end.result x.in-Lost.mark x.in-Lost.is number e.2,
      )
    ]

pub returns-after-end-clause-judged : goal.returns-after-end-clause-judged
returns-after-end-clause-judged g c = λ r n.
    let geo = c.args.self.now.geometry in
    let w = c.in-Some.memory.write in
    let m = c.in-Some.ensures.write in
    let v = c.args.pass.now.seat.me.0 in
    let a = c.admit.new.pass.seat.me.0 in
    let u = c.end-end.new.pass.seat.me.0 in
    let later = starts_after a.seen c.deposit_work.new.pass.seat.me.0.seen u.seen c.deposit_work.ensures.call.later c.end-end.ensures.call.1.later in
    let Judged : Result ⊤ IoError → Type 0 = λ r. Admitted v u c.args.first (sectors_of (shape geo) c.args.bytes.items) r in
    elim c.match-end.branch [
      | in-Done x ↦ subst Judged (sym x.result-is)
          (admitted_by v a u (shape geo) w c.args.first c.args.bytes.items c.admit.result admit.In _ c.in-In.is
          m.2 (ap (λ (b : Vec ℕ Global). b.items) m.3) later (λ vol past j. is_done _ vol past _ _ j) c.admit.ensures.asked)
      | in-Lost x ↦ subst Judged (sym x.result-is)
          (admitted_by v a u (shape geo) w c.args.first c.args.bytes.items c.admit.result admit.In _ c.in-In.is
          m.2 (ap (λ (b : Vec ℕ Global). b.items) m.3) later (λ vol past j. is_fault x.in-Lost.mark vol past _ _ j) c.admit.ensures.asked)
    ]

pub returns-in-Denied-clause-judged : goal.returns-in-Denied-clause-judged
returns-in-Denied-clause-judged g c = λ r n.
    let geo = c.args.self.now.geometry in
    let w = c.in-Some.memory.write in
    let m = c.in-Some.ensures.write in
    admitted_by c.args.pass.now.seat.me.0 c.admit.new.pass.seat.me.0 c.admit.new.pass.seat.me.0 (shape geo) w c.args.first c.args.bytes.items c.admit.result (admit.Denied c.in-Denied.field-0) _ c.in-Denied.is
    m.2 (ap (λ (b : Vec ℕ Global). b.items) m.3) (starts c.admit.new.pass.seat.me.0.seen) (λ vol past j. is_denied vol past _ _ j) c.admit.ensures.asked

pub returns-in-Frozen-clause-judged : goal.returns-in-Frozen-clause-judged
returns-in-Frozen-clause-judged g c = λ r n.
    let geo = c.args.self.now.geometry in
    let w = c.in-Some.memory.write in
    let m = c.in-Some.ensures.write in
    admitted_by c.args.pass.now.seat.me.0 c.admit.new.pass.seat.me.0 c.admit.new.pass.seat.me.0 (shape geo) w c.args.first c.args.bytes.items c.admit.result (admit.Frozen c.in-Frozen.field-0) _ c.in-Frozen.is
    m.2 (ap (λ (b : Vec ℕ Global). b.items) m.3) (starts c.admit.new.pass.seat.me.0.seen) (λ vol past j. is_frozen_now vol past _ _ j) c.admit.ensures.asked
