use Rattle.std.proofs.Common.{◌/◌, length, sym, subst, arith}
use Rattle.vc_base.specs.Bytes.{IsBytes}
use Rattle.aes_core.specs.Laws.Planes.{ArePlanes}
use Rattle.aes_core.proofs.EightBlocks.{rows_of_chunks, rows_are_planes}
use Rattle.aes_core.proofs.planes.gather.Goals as goal

pub returns-clause-planes : goal.returns-clause-planes
returns-clause-planes c =
    let group = c.args.group.now in
    let bytes : IsBytes 128 group = record { count = c.requires; each = λ i. (c.type_inv.group i).fits } in
    subst ArePlanes (sym (rows_of_chunks (length group / 16) group c.as_chunks.result.0.now c.as_chunks.ensures.front (omega arith)))
    (rows_are_planes group bytes)

pub returns-clause-rows : goal.returns-clause-rows
returns-clause-rows c =
    let group = c.args.group.now in
    rows_of_chunks (length group / 16) group c.as_chunks.result.0.now c.as_chunks.ensures.front (omega arith)
