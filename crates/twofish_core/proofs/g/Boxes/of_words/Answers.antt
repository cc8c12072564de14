use Rattle.std.proofs.Common.{refl, arith}
use Rattle.twofish_core.specs.Laws.Columns.{added_0, added_1, added_2, added_3, reversed}
use Rattle.twofish_core.proofs.Entries.{entries_none, entries_more, entries_all}
use Rattle.twofish_core.proofs.g.Boxes.of_words.Goals as goal

pub loop-b-init : goal.loop-b-init
loop-b-init c = record {
  of_byte_0 = entries_none _ _ refl;
  of_byte_1 = entries_none _ _ refl;
  of_byte_2 = entries_none _ _ refl;
  of_byte_3 = entries_none _ _ refl;
}

pub loop-b-preserved : goal.loop-b-preserved
loop-b-preserved c =
    let l = reversed c.args.words in
    let b = c.loop-b.b in
    record {
      of_byte_0 = entries_more b _ (added_0 l) c.loop-b.table_0 c.loop-b.invariant.of_byte_0 (omega arith)
          c.from_byte_0.ensures;
      of_byte_1 = entries_more b _ (added_1 l) c.loop-b.table_1 c.loop-b.invariant.of_byte_1 (omega arith)
          c.from_byte_1.ensures;
      of_byte_2 = entries_more b _ (added_2 l) c.loop-b.table_2 c.loop-b.invariant.of_byte_2 (omega arith)
          c.from_byte_2.ensures;
      of_byte_3 = entries_more b _ (added_3 l) c.loop-b.table_3 c.loop-b.invariant.of_byte_3 (omega arith)
          c.from_byte_3.ensures;
    }

pub invariant_of-result : goal.invariant_of-result
invariant_of-result c =
    let b = c.loop-b.b in
    record {
      are_tables = record {
        of_byte_0 = entries_all b _ _ c.loop-b.invariant.of_byte_0 (omega arith);
        of_byte_1 = entries_all b _ _ c.loop-b.invariant.of_byte_1 (omega arith);
        of_byte_2 = entries_all b _ _ c.loop-b.invariant.of_byte_2 (omega arith);
        of_byte_3 = entries_all b _ _ c.loop-b.invariant.of_byte_3 (omega arith);
      };
    }
