use Rattle.std.proofs.Common.{◌≡◌, List, ◌++◌, ap, sym, subst, ◌∙◌, append-nil}
use Rattle.sector_model.specs.declared.entry.Entry.{Entry}
use Rattle.io_core.specs.Sound.{Sound}
use Rattle.io_core.specs.declared.answers.Admit.{Admit}
use Rattle.io_core.specs.declared.answers.Admit.TheVariants.{Later}
use Rattle.io_queue.specs.Laws.Acts.{admitted, MayAdmit, MayAsk}
use Rattle.io_queue.proofs.Acting.{ask_adds, ask_fresh}
use Rattle.io_queue.proofs.write_acts.AskAdmissionActCore.act.Goals as goal

pub admit_write-requires-clause-fresh : goal.admit_write-requires-clause-fresh
admit_write-requires-clause-fresh g c =
    let a = c.args.self.now in
    let is : a.state ≡ Later c.in-Later.write = sym c.replace.ensures.value ∙ c.in-Later.is in
    let m : MayAsk c.requires.0 c.requires.1 a.geometry c.in-Later.write
    = subst (λ (x : Admit). MayAdmit c.requires.0 c.requires.1 a.geometry x) is c.requires.2 in
    ask_fresh g.S.Store g.C.UnitCipher c.requires.0 c.requires.1 c.args.value.now c.requires.3 a.geometry c.in-Later.write m

pub returns-clause-stands : goal.returns-clause-stands
returns-clause-stands g c = λ base log may stands.
    let a = c.args.self.now in
    let w = c.in-Later.write in
    let is : a.state ≡ Later w = sym c.replace.ensures.value ∙ c.in-Later.is in
    let m : MayAsk base log a.geometry w = subst (λ (x : Admit). MayAdmit base log a.geometry x) is may in
    subst (λ (es : List Entry). Sound g.S.Store g.C.UnitCipher base (log ++ es) c.admit_write.new.self)
    (ask_adds g.S.Store g.C.UnitCipher base log c.args.value.now stands a.geometry w c.admit_write.result m
    ∙ ap (λ (x : Admit). admitted a.geometry x c.admit_write.result) (sym is))
    (c.admit_write.ensures.sound base log stands)

pub returns-then-write-caller-clause-stands : goal.returns-then-write-caller-clause-stands
returns-then-write-caller-clause-stands g c = λ base log may stands.
    let a = c.args.self.now in
    let w = c.in-Later.write in
    let is : a.state ≡ Later w = sym c.replace.ensures.value ∙ c.in-Later.is in
    subst (λ (x : Admit). Sound g.S.Store g.C.UnitCipher base (log ++ admitted a.geometry x (Later w)) c.args.value.now) (sym is)
    (subst (λ (l : List Entry). Sound g.S.Store g.C.UnitCipher base l c.args.value.now) (sym (append-nil log)) stands)
