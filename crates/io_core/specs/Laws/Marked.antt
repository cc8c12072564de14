-- A pending write whose fragment got a new state, in its place among the others.
use Rattle.std.specs.Prelude.{◌≡◌, ℕ, List, slice_index_or, slice_set}
use Rattle.io_core.specs.State.{write_of}
use Rattle.io_core.specs.declared.part.PartState.{PartState}
use Rattle.io_core.specs.declared.prepared.Prepared.{Prepared}

pub record IsMarked (at index : ℕ) (state : PartState) (d : Prepared) (old new : List Prepared) : Type 0 where
  pub write : Prepared
  pub same : write_of write ≡ write_of (slice_index_or old at d)
  pub parts : write.parts.items ≡ slice_set (slice_index_or old at d).parts.items index state
  pub others : new ≡ slice_set old at write
