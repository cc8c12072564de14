use Rattle.std.proofs.Common.{ℕ, List, ◌++◌, sym, subst, append-nil}
use Rattle.std.specs.List.{Any}
use Rattle.sector_model.specs.History.{HasName}
use Rattle.sector_model.specs.declared.entry.Entry.{Entry}
use Rattle.io_core.specs.Closings.{close_entries}
use Rattle.io_core.specs.Sound.{Sound}
use Rattle.io_core.specs.State.{write_of}
use Rattle.io_core.specs.declared.answers.Close.{Close}
use Rattle.io_core.specs.declared.prepared.Prepared.{Prepared}
use Rattle.io_queue.specs.Laws.Acts.{MayEnd}
use Rattle.io_queue.proofs.Ending.{ends, is_pending, own_ended}
use Rattle.io_queue.proofs.write_acts.EndWriteActCore.act.Goals as goal

pub close_write-requires : goal.close_write-requires
close_write-requires g c =
    let a = c.args.self.now in
    record {
      pending = subst (λ (n : ℕ). Any (λ (p : Prepared). HasName n 0 (write_of p)) c.args.value.now.pending) (sym c.if-caller-self.true)
          (is_pending g.S.Store g.C.UnitCipher c.args.value.now a.caller c.requires.0 c.requires.1 c.requires.3 a.geometry a.first a.count c.requires.2.1);
    }

pub returns-then-caller-self-clause-stands : goal.returns-then-caller-self-clause-stands
returns-then-caller-self-clause-stands g c = λ base log may stands. c.close_write.ensures.sound base log stands

pub returns-then-caller-self-clause-allowed : goal.returns-then-caller-self-clause-allowed
returns-then-caller-self-clause-allowed g c = λ same.
    let a = c.args.self.now in
    let m : MayEnd c.requires.0 c.requires.1 a.geometry c.args.caller a.first a.count
    = subst (λ (n : ℕ). MayEnd c.requires.0 c.requires.1 a.geometry n a.first a.count) (sym same) c.requires.2.1 in
    ends g.S.Store g.C.UnitCipher c.args.value.now c.args.caller c.requires.0 c.requires.1 c.requires.3 a.geometry a.first a.count m
    c.close_write.result c.close_write.new.self.pending c.close_write.ensures.closed

pub returns-then-caller-self-clause-own : goal.returns-then-caller-self-clause-own
returns-then-caller-self-clause-own g c = own_ended g.S.Store g.C.UnitCipher c.args.value.now c.args.caller c.close_write.result

pub returns-else-caller-self-clause-stands : goal.returns-else-caller-self-clause-stands
returns-else-caller-self-clause-stands g c = λ base log may stands.
    subst (λ (x : Close). Sound g.S.Store g.C.UnitCipher base (log ++ close_entries g.S.Store g.C.UnitCipher c.args.value.now c.args.caller 0 x) c.args.value.now)
    (sym may.0)
    (subst (λ (l : List Entry). Sound g.S.Store g.C.UnitCipher base l c.args.value.now) (sym (append-nil log)) stands)

pub returns-else-caller-self-clause-own : goal.returns-else-caller-self-clause-own
returns-else-caller-self-clause-own g c = own_ended g.S.Store g.C.UnitCipher c.args.value.now c.args.caller c.args.self.now.answer
