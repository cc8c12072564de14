use Rattle.std.proofs.Common.{List, ◌++◌, subst}
use Rattle.sector_model.specs.declared.entry.Entry.{Entry}
use Rattle.io_core.specs.Sound.{Sound}
use Rattle.io_queue.proofs.Acting.{fetch_adds}
use Rattle.io_queue.proofs.acts.FetchIntoActCore.act.Goals as goal

pub returns-clause-stands : goal.returns-clause-stands
returns-clause-stands g c = λ base log may stands.
    let a = c.args.self.now in
    subst (λ (es : List Entry). Sound g.S.Store g.C.UnitCipher base (log ++ es) c.fetch-self.new.self)
    (fetch_adds g.S.Store g.C.UnitCipher base log c.args.value.now stands a.geometry a.cipher.now a.first c.args.caller a.out.now c.fetch-self.new.out c.fetch-self.result may)
    (c.fetch-self.ensures.sound base log c.args.caller 0 stands)
