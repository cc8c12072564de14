use Rattle.std.proofs.Common.{rules, ◌≡◌, ◌≤◌, ℕ, suc, ◌-◌, List, [], length, All, Contains, arith, ap, sym, subst, ◌∙◌}
use Rattle.atomic_table.specs.Table.{Final, Seen}
use Rattle.std.specs.Slots.{slots_items}
use Rattle.hist_lock.specs.declared.view.View.{View}
use Rattle.hist_lock.specs.Known.{numbers_of, closed}
use Rattle.hist_lock.specs.Laws.Rule.{Kept}
use Rattle.hist_lock.specs.Laws.Steps.{Sat}
use Rattle.hist_lock.proofs.Ends.{closes, remembers, Last, ends, same_slot, not_empty}
use Rattle.hist_lock.proofs.lock.HistLock.close.Given.{Over}
use Rattle.hist_lock.proofs.lock.HistLock.close.Goals.{After-free}
use Rattle.hist_lock.proofs.lock.HistLock.close.Goals as goal

-- the count that was loaded is that of the pass's numbers
counted : (ended found under : ℕ) → ended ≡ under → suc under ≤ found → ended ≡ found - 1 → found ≡ suc under
counted ended found under is some same = omega arith

pub load-found-requires : goal.load-found-requires
load-found-requires g c = (c.requires.pass.0, search rules, closes _ _ _ _ c.args.pass.seat.me c.requires.pass.1 c.args.pass.spare)

pub split_seat-memo-requires : goal.split_seat-memo-requires
split_seat-memo-requires g c = (search rules, search rules, remembers _ _ _ c.load-found.new.seat.me.0)

-- the pass is alone, so the slot has the value
last : (g : Over) (c : After-free g) → Last g.T.Standing.stands g.T.Standing.number c.args.pass.seat.me.0 (slots_items c.close_with-last.result.slots)
last g c =
    let p = c.args.pass in
    let is : c.split_seat-memo.new.seat.me.0 ≡ p.seat.me.0 =
    ap (λ (m : Sat g.row.T.Denot g.row.T-Entry.Denot). m.0) c.split_seat-memo.ensures.2 ∙ ap (λ (m : Sat g.row.T.Denot g.row.T-Entry.Denot). m.0) c.load-found.ensures.2.0 in
    let count : c.load-found.result ≡ length (numbers_of p.seat.me.0) = counted p.ended c.load-found.result (length p.seat.me.0.under) p.ended_is c.load-found.ensures.2.1 c.if-pass-found.false in
    let final = subst (λ (v : View g.row.T.Denot g.row.T-Entry.Denot). Final (Seen (Kept g.T.Standing.stands g.T.Standing.number) c.split_seat-memo.new.seat.id v)
    (slots_items c.close_with-last.result.words) (slots_items c.close_with-last.result.slots)) is c.close_with-last.ensures.values.2 in
    ends _ _ _ p.seat.me.0 _ _ c.requires.pass.1 p.holds p.spare (c.load-found.ensures.2.2.1 count) final

pub unreachable-requires : goal.unreachable-requires
unreachable-requires g c = let l = last g (goal.at.unreachable-requires g c).After-free in
    not_empty (slots_items c.close_with-last.result.slots) l.value c.in_default.ensures.value l.slot

pub returns-clause-value : goal.returns-clause-value
returns-clause-value g c =
    let l = last g (goal.at.returns-clause-value g c).After-free in
    let now : c.split_seat-memo.result.me ≡ (closed c.args.pass.seat.me.0, []) =
    c.split_seat-memo.ensures.4 ∙ ap (λ (m : Sat g.row.T.Denot g.row.T-Entry.Denot). (closed m.0, [])) c.load-found.ensures.2.0 in
    let value : l.value ≡ c.in-Some.value = same_slot (slots_items c.close_with-last.result.slots) l.value c.in-Some.value l.slot c.in-Some.ensures.value in
    let P : Sat g.row.T.Denot g.row.T-Entry.Denot × g.row.T.Denot → Type 0 = λ z. g.T.Standing.stands l.base z.0.0.seen z.1 in (
      l.base,
      ap (λ (m : Sat g.row.T.Denot g.row.T-Entry.Denot). m.0.base) now ∙ l.based,
      subst P (λ i. (sym now i, value i)) l.stood,
    )

pub returns-clause-callers : goal.returns-clause-callers
returns-clause-callers g c =
    let l = last g (goal.at.returns-clause-callers g c).After-free in
    let now : c.split_seat-memo.result.me ≡ (closed c.args.pass.seat.me.0, []) =
    c.split_seat-memo.ensures.4 ∙ ap (λ (m : Sat g.row.T.Denot g.row.T-Entry.Denot). (closed m.0, [])) c.load-found.ensures.2.0 in
    subst (λ (m : Sat g.row.T.Denot g.row.T-Entry.Denot). All (λ e. Contains (numbers_of m.0) (g.T.Standing.number e)) m.0.seen) (sym now) l.named_all
