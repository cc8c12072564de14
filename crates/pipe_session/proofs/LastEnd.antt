-- How a client's bytes end: never by a fault of the sink.
use Rattle.std.proofs.Common.{◌≡◌, ℕ, zero, suc, List, length, ◌⊎◌, inl, inr, sym, ◌∙◌}
use Rattle.nbd_wire.specs.Frames.{asks, followed, Frames, frames, frames_up_to, leaves, over, short, Start, start, wrong}
use Rattle.nbd_wire.specs.declared.end.End.{End}
use Rattle.nbd_wire.specs.declared.end.End.TheVariants as end

by_start : (s : Start) (more : List ℕ → Frames) → ((r : List ℕ) → (more r).last ≡ end.WriteFault → ⊥) → (followed s more).last ≡ end.WriteFault → ⊥
by_start over more rest is = let e : end.Done ≡ end.WriteFault = is in cc
by_start short more rest is = let e : end.Cut ≡ end.WriteFault = is in cc
by_start (wrong magic) more rest is = let e : end.BadMagic magic ≡ end.WriteFault = is in cc
by_start (leaves r) more rest is = let e : end.Done ≡ end.WriteFault = is in cc
by_start (asks q payload r) more rest is = rest r is

by_length : (n : ℕ) (bytes : List ℕ) → (frames_up_to n bytes).last ≡ end.WriteFault → ⊥
by_length zero bytes is = let e : end.Done ≡ end.WriteFault = is in cc
by_length (suc n) bytes is = by_start (start bytes) (frames_up_to n) (by_length n) is

pub no_write_fault : (bytes : List ℕ) (how : End) → (how ≡ (frames bytes).last) ⊎ (how ≡ end.ReadFault) → how ≡ end.WriteFault → ⊥
no_write_fault bytes how (inl last) is = by_length (suc (length bytes)) bytes (sym last ∙ is)
no_write_fault bytes how (inr fault) is = let e : end.ReadFault ≡ end.WriteFault = sym fault ∙ is in cc

pub refused_no_read : (how : End) → (how ≡ end.WriteFault) ⊎ (how ≡ end.NoMemory) → how ≡ end.ReadFault → ⊥
refused_no_read how (inl fault) is = let e : end.WriteFault ≡ end.ReadFault = sym fault ∙ is in cc
refused_no_read how (inr none) is = let e : end.NoMemory ≡ end.ReadFault = sym none ∙ is in cc
