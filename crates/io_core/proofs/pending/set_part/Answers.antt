use Rattle.std.proofs.Common.{◌≡◌, get_or, set, refl, ap}
use Rattle.std.proofs.lemmas.List.{get_or_read}
use Rattle.io_core.specs.State.{write_of}
use Rattle.io_core.specs.declared.prepared.Prepared.{Prepared}
use Rattle.io_core.proofs.pending.set_part.Goals as goal

pub returns-clause-marked : goal.returns-clause-marked
returns-clause-marked c d =
    let read : c.index_mut-write.result.now ≡ get_or c.args.pending.now.items c.args.at d
    = get_or_read c.args.pending.now.items c.args.at c.index_mut-write.result.now c.requires.place c.index_mut-write.ensures.value d in
    record {
      write = _;
      same = ap write_of read;
      parts = ap (λ (p : Prepared). set p.parts.items c.args.index c.args.state) read;
      others = refl;
    }
