use Rattle.std.proofs.Common.{Some, arith}
use Rattle.header_race.proofs.Settling.{may_be_offered}
use Rattle.header_race.proofs.Trying.{has, number_below, wins}
use Rattle.header_race.proofs.derivation.outcome_of.Goals as goal

pub offer-requires-clause-limit : goal.offer-requires-clause-limit
offer-requires-clause-limit c =
    omega (
      arith,
      c.from-first.ensures,
      c.from.ensures,
      c.number.ensures,
      number_below c.in-Some.algorithm,
      c.requires.at.below,
      c.requires.race.few,
      c.requires.limit,
    )

pub offer-requires-clause-named : goal.offer-requires-clause-named
offer-requires-clause-named c =
    may_be_offered c.args.least.now.key.names c.args.number c.args.entrant.now c.in-Some.algorithm _ c.requires.at
    (wins c.args.least.now.key.names c.args.p.now c.args.pim c.args.len c.args.entrant.now c.in-Ok.key c.requires.race
    c.in-Ok.ensures.key (Some c.in-Some.algorithm) c.in-Some.ensures.least)
    (omega (arith, c.from-first.ensures, c.from.ensures, c.number.ensures))

pub returns-in-Some : goal.returns-in-Some
returns-in-Some c =
    let r = c.args.least.now.key.names in let e = c.args.entrant.now in record {
      outcome = (
        wins r c.args.p.now c.args.pim c.args.len e c.in-Ok.key c.requires.race c.in-Ok.ensures.key
            (Some c.in-Some.algorithm) c.in-Some.ensures.least,
        has r c.args.p.now c.args.pim c.args.len e c.in-Ok.key c.requires.race c.in-Ok.ensures.key
            c.in-Some.algorithm c.in-Some.fields c.in-Some.ensures.fields c.in-Some.ensures.valid,
      );
    }
