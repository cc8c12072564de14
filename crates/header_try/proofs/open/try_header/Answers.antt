use Rattle.header_seal.specs.Candidates.{is_valid_under}
use Rattle.header_try.proofs.First.{of_first_prf, of_second_prf}
use Rattle.header_try.proofs.open.try_header.Goals as goal

pub returns-in-Some-clause-first : goal.returns-in-Some-clause-first
returns-in-Some-clause-first c =
    of_first_prf c.args.slot (is_valid_under c.args.header.now c.args.len c.args.p.now c.args.pim) _ c.in-Some.ensures.first

pub returns-in-None-clause-first : goal.returns-in-None-clause-first
returns-in-None-clause-first c =
    of_second_prf c.args.slot (is_valid_under c.args.header.now c.args.len c.args.p.now c.args.pim) _
    c.in-None.ensures.first c.try_prf-in-None.ensures.first
