use Rattle.twofish_core.specs.Laws.Columns.{added_0, added_1, added_2, added_3, HasEntries}
use Rattle.twofish_core.proofs.g.Boxes.of_words.Given as goal

abbrev pub invariant-loop-b : goal.invariant-loop-b
invariant-loop-b l = record {
  of_byte_0 : HasEntries l.b (added_0 l.l) l.table_0;
  of_byte_1 : HasEntries l.b (added_1 l.l) l.table_1;
  of_byte_2 : HasEntries l.b (added_2 l.l) l.table_2;
  of_byte_3 : HasEntries l.b (added_3 l.l) l.table_3;
}
