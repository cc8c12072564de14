use Rattle.std.proofs.Common.{◌≡◌, ℕ, [], ap, sym, subst, ◌∙◌}
use Rattle.sector_model.specs.History.{open_from, open_writes}
use Rattle.hist_lock.specs.History.{entries}
use Rattle.io_core.specs.Entries.{admit_entries}
use Rattle.io_core.specs.declared.answers.Admit.{Admit}
use Rattle.io_queue.specs.Pass.{caller_of, shape}
use Rattle.io_queue.specs.Laws.Opens.{Opens}
use Rattle.io_queue.proofs.Acting.{was_asked}
use Rattle.io_queue.proofs.Passes.{admit_quiet, began_base, call_is, opens_nothing, quiet_after, still_open}
use Rattle.io_queue.proofs.volume.Volume.ask_once.Goals as goal

pub turn-requires-clause-may : goal.turn-requires-clause-may
turn-requires-clause-may g c = λ l κ base log is later own.
    let b = began_base c.args.self.now.geometry c.args.self.now.cipher c.args.pass.now.seat.me.0 base is c.requires.pass.1 in
    record {
      geometry = b.0;
      whole = c.requires.whole;
      fits = c.requires.fits;
      fresh = subst (λ (n : ℕ). open_writes (entries caller_of n log) ≡ []) (sym c.requires.name.0)
          (still_open c.args.pass.now.seat.me.0 [] log c.args.pass.now.own own (opens_nothing c.args.pass.now.seat.me.0 c.requires.open));
      waiting = c.requires.waiting;
    }

pub returns-clause-answered : goal.returns-clause-answered
returns-clause-answered g c = c.turn.ensures.acted.2.1

pub returns-clause-call : goal.returns-clause-call
returns-clause-call g c = let a = c.turn.ensures.acted in call_is c.args.pass.now.seat.me.0 c.turn.new.pass.seat.me.0 a.0 _ a.2.0 a.3

pub returns-clause-refused : goal.returns-clause-refused
returns-clause-refused g c = λ other. let a = c.turn.ensures.acted in
    quiet_after c.args.pass.now.seat.me.0 c.turn.new.pass.seat.me.0 a.0 _ a.2.0 (admit_quiet (shape c.args.self.now.geometry) c.args.write c.turn.new.act.state other) a.6 c.requires.open

pub returns-clause-admitted : goal.returns-clause-admitted
returns-clause-admitted g c = λ is. let a = c.turn.ensures.acted in
    subst (Opens c.turn.new.pass.seat.me.0)
    (ap (open_from []) (a.2.0 ∙ ap (λ (x : Admit). admit_entries (shape c.args.self.now.geometry) c.args.write x) is))
    (a.6 [] (opens_nothing c.args.pass.now.seat.me.0 c.requires.open))

pub returns-clause-asked : goal.returns-clause-asked
returns-clause-asked g c = let a = c.turn.ensures.acted in
    was_asked g.S.Store g.C.UnitCipher c.args.pass.now.seat.me.0 c.turn.new.pass.seat.me.0 c.args.self.now.geometry c.args.self.now.cipher
    c.args.write c.turn.new.act.state a.0 a.1 a.3.same.base a.4 a.5 a.2.0 c.requires.pass.1 c.turn.ensures.stands
