use Rattle.std.proofs.Common.{rules, ◌∙◌}
use Rattle.std.proofs.lemmas.List.Elements.{All-same, All-push}
use Rattle.frag_pool.specs.Bench.{IsNewHelper}
use Rattle.frag_pool.proofs.Thieves.{new_of}
use Rattle.frag_pool.proofs.pool.Pool.new.Goals as goal

pub loop-2-preserved : goal.loop-2-preserved
loop-2-preserved c =
    let inv = c.loop-2.invariant in
    let is = c.in_ok-helper.ensures in
    record {
      benches = is.as_many ∙ inv.benches;
      new_benches = is.benches c.args.helpers inv.new_benches;
      as_many = search rules;
      room = search rules;
      new = All-same (IsNewHelper c.args.benches) _ _ c.push_reserved-in-loop-2.ensures.items
          (All-push (IsNewHelper c.args.benches) _ _ inv.new (new_of inv.benches is.new));
    }
