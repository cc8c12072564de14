use Rattle.std.proofs.Common.{rules, ◌≡◌, ◌<◌, ◌+◌, ℕ, List, [], All, length, ap, sym, subst, ◌∙◌}
use Rattle.std.proofs.lemmas.List.{length_push, length-map, length-set}
use Rattle.std.proofs.lemmas.List.Elements.{All-same, All-push, All-set, All-map, All-get_or}
use Rattle.frag_pool.specs.Bench.{stolen_from, IsNewBench}
use Rattle.frag_pool.specs.declared.bench.Bench.{Bench}
use Rattle.frag_pool.specs.declared.helper.Thief.{Thief}
use Rattle.frag_pool.proofs.Thieves.{still_new}
use Rattle.frag_pool.proofs.helper.Helper.new.Goals as goal

pub loop-i-preserved : goal.loop-i-preserved
loop-i-preserved c =
    let inv = c.loop-i.invariant in
    let i : ℕ = c.loop-i.i in
    let benches : List Bench = c.loop-i.benches.items in
    let old : Bench = c.index_mut.result.now in
    let new : Bench = c.thief.new.self in
    let is = c.in_ok-thief.ensures in
    let inside : i < length benches = search rules in
    let at : (P : Bench → Type 0) → All P benches → P old
    = λ P all. subst P (sym c.index_mut.ensures.value) (All-get_or P benches i old inside all) in
    record {
      as_many = ap (λ (l : List Thief). length l) c.push_reserved.ensures.items ∙ length_push _ _ ∙ ap (λ (n : ℕ). n + 1) inv.as_many;
      room = search rules;
      same_benches = search rules;
      counted = length-set benches i new ∙ inv.counted;
      stolen_none = All-same (λ t. stolen_from t ≡ []) _ _ c.push_reserved.ensures.items
          (All-push (λ t. stolen_from t ≡ []) _ _ inv.stolen_none is.new);
      helped = All-set (λ b. 0 < b.helpers) benches i new
          (subst (λ (n : ℕ). 0 < n) (sym is.same.same_helpers) (at (λ b. 0 < b.helpers) inv.helped)) inv.helped;
      new = λ n all. All-set (IsNewBench n) benches i new
          (still_new n old new is.same is.clean is.pushed is.got (at (IsNewBench n) (inv.new n all))) (inv.new n all);
    }

pub returns-clause-new : goal.returns-clause-new
returns-clause-new c =
    let inv = c.loop-i.invariant in
    let end : c.loop-i.i ≡ c.args.benches.now.len = search rules in
    record {
      as_many = length-map c.loop-i.thieves.items stolen_from ∙ inv.as_many ∙ end;
      none = All-map (λ l. l ≡ []) stolen_from c.loop-i.thieves.items inv.stolen_none;
    }
