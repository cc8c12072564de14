use Rattle.std.proofs.Common.{ℕ, List, sym, subst}
use Rattle.vc_header.specs.Header.{Valid}
use Rattle.header_seal.specs.Sealed.{plain_under}
use Rattle.header_try.proofs.Bodies.{if_some}
use Rattle.header_try.proofs.slot.try_algorithm.Goals as goal

pub returns-clause-decided : goal.returns-clause-decided
returns-clause-decided c =
    let body : List ℕ = plain_under c.args.algorithm c.args.derived.now c.args.header.now in
    let P : List ℕ → Type 0 = λ b. Valid b c.args.slot c.args.len in
    let decided = c.validity_is_decided.ensures body c.args.slot c.args.len in (
      λ some. decided.1 (subst P c.plain.ensures (c.read_plain.ensures.valid.0 some)),
      λ test. c.read_plain.ensures.valid.1 (subst P (sym c.plain.ensures) (decided.0 test)),
    )

pub returns-clause-valid : goal.returns-clause-valid
returns-clause-valid c =
    let P : List ℕ → Type 0 = λ b. Valid b c.args.slot c.args.len in
    if_some c.read_plain.result (λ some. subst P c.plain.ensures (c.read_plain.ensures.valid.0 some))
