use Rattle.std.proofs.Common.{◌≡◌, List, [], ◌∷◌, ◌++◌, Some, ap, sym, subst, ◌∙◌}
use Rattle.atomic_table.specs.Table.{rest}
use Rattle.hist_lock.specs.declared.view.View.{View}
use Rattle.hist_lock.specs.Laws.Steps.{Sat, done}
use Rattle.hist_lock.proofs.Acting.{taken}
use Rattle.hist_lock.proofs.turn.act_once.Goals as goal

pub exchange-taken-requires : goal.exchange-taken-requires
exchange-taken-requires g c = let h = c.requires.value in
    (c.requires.table.0, (Some h.1, h.3 ∙ ap (λ l. (0, Some h.1) ∷ l) (sym (ap rest h.3))))

pub pass_on-requires-clause-home : goal.pass_on-requires-clause-home
pass_on-requires-clause-home g c =
    let h = c.requires.value in
    let view : c.exchange-hole.new.seat.me.0 ≡ c.args.seat.now.me.0 = ap (λ (m : Sat g.row.T.Denot g.row.T-Entry.Denot). m.0) (c.exchange-hole.ensures.3 ∙ ap (λ (m : Sat g.row.T.Denot g.row.T-Entry.Denot). (m.0, (0, Some c.act.new.value) ∷ rest m.1)) c.exchange-taken.ensures.3) in
    let bare : rest c.exchange-taken.new.seat.me.1 ≡ [] = ap (λ (m : Sat g.row.T.Denot g.row.T-Entry.Denot). rest m.1) c.exchange-taken.ensures.3 ∙ ap rest h.3 in
    let same : g.A.Act.adds c.of-asked.result.value c.of-before.result.value c.of-answered.result.value c.of-after.result.value c.args.caller
    ≡ g.A.Act.adds c.args.act.now c.in-Some.value c.act.new.self c.act.new.value c.args.caller =
    λ i. g.A.Act.adds (c.of-asked.ensures i) (c.of-before.ensures i) (c.of-answered.ensures i) (c.of-after.ensures i) c.args.caller in
    let slots : (0, c.exchange-taken.result) ∷ rest c.args.seat.now.me.1 ≡ (0, Some h.1) ∷ [] = sym c.exchange-taken.ensures.2 ∙ h.3 in
    let is_it : c.in-Some.value ≡ h.1 = taken c.exchange-taken.result h.1 c.in-Some.value (rest c.args.seat.now.me.1) slots c.in-Some.is in
    let stood : g.T.Standing.stands h.0 c.args.seat.now.me.0.seen c.in-Some.value = subst (λ x. g.T.Standing.stands h.0 c.args.seat.now.me.0.seen x) (sym is_it) h.4 in
    let P : View g.row.T.Denot g.row.T-Entry.Denot × List g.row.T-Entry.Denot → Type 0 = λ z. g.T.Standing.stands h.0 (z.0.seen ++ z.1) c.act.new.value in (
      h.0,
      c.act.new.value,
      ap (λ (v : View g.row.T.Denot g.row.T-Entry.Denot). v.base) view ∙ h.2,
      ap (λ (m : Sat g.row.T.Denot g.row.T-Entry.Denot). m.1) c.exchange-hole.ensures.3 ∙ ap (λ l. (0, Some c.act.new.value) ∷ l) bare,
      subst P (λ i. (sym view i, sym same i)) (c.act.ensures.stands h.0 c.args.seat.now.me.0.seen h.5 stood),
    )

pub returns-clause-acted : goal.returns-clause-acted
returns-clause-acted g c =
    let h = c.requires.value in
    let view : c.exchange-hole.new.seat.me.0 ≡ c.args.seat.now.me.0 = ap (λ (m : Sat g.row.T.Denot g.row.T-Entry.Denot). m.0) (c.exchange-hole.ensures.3 ∙ ap (λ (m : Sat g.row.T.Denot g.row.T-Entry.Denot). (m.0, (0, Some c.act.new.value) ∷ rest m.1)) c.exchange-taken.ensures.3) in
    let same : g.A.Act.adds c.of-asked.result.value c.of-before.result.value c.of-answered.result.value c.of-after.result.value c.args.caller
    ≡ g.A.Act.adds c.args.act.now c.in-Some.value c.act.new.self c.act.new.value c.args.caller =
    λ i. g.A.Act.adds (c.of-asked.ensures i) (c.of-before.ensures i) (c.of-answered.ensures i) (c.of-after.ensures i) c.args.caller in
    let slots : (0, c.exchange-taken.result) ∷ rest c.args.seat.now.me.1 ≡ (0, Some h.1) ∷ [] = sym c.exchange-taken.ensures.2 ∙ h.3 in
    let is_it : c.in-Some.value ≡ h.1 = taken c.exchange-taken.result h.1 c.in-Some.value (rest c.args.seat.now.me.1) slots c.in-Some.is in
    let stood : g.T.Standing.stands h.0 c.args.seat.now.me.0.seen c.in-Some.value = subst (λ x. g.T.Standing.stands h.0 c.args.seat.now.me.0.seen x) (sym is_it) h.4 in (
      g.A.Act.adds c.args.act.now c.in-Some.value c.act.new.self c.act.new.value c.args.caller,
      c.pass_on.ensures.passed ∙ (λ i. (done (same i) (view i), [])),
      c.act.ensures.allowed,
      c.act.ensures.own,
      (h.0, c.act.new.value, h.2, c.act.ensures.stands h.0 c.args.seat.now.me.0.seen h.5 stood),
    )
