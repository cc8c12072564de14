use Rattle.std.proofs.Common.{◌≡◌, ◌+◌, ◌≤◌, ℕ, List, ◌++◌, ◌∷◌, [], length, take, sym, ◌∙◌, ap, rules, arith}
use Rattle.std.proofs.lemmas.Grind.{common_steps}
use Rattle.std.specs.Prelude.{slice_range}
use Rattle.vc_outside.specs.Laws.Log.{Log}
use Rattle.vc_outside.specs.Memory.{noted, shown, stored}
use Rattle.vc_outside.specs.Record.{Wrote}
use Rattle.vc_outside.specs.Told.{written}
use Rattle.vc_outside.proofs.ReadIsRecorded.{held-next, stored-all, stored-after, stored-long}
use Rattle.vc_outside.proofs.medium.Medium.write.Goals as goal

pub invariant_of-self : goal.invariant_of-self
invariant_of-self c =
    let b = c.self.inside.bytes.items in
    let xs = c.args.piece.now in
    let within : c.args.at + length xs ≤ length b = search rules in
    let now = c.overwrite.new.image.items in
    let is : now ≡ written c.args.at (take c.args.kept xs) b = search rules in
    let more : c.write.new.self.events ≡ c.self.inside.log.events ++ Wrote c.args.at (stored c.args.kept c.args.at xs b) ∷ [] = ap (λ (l : Log). l.events) c.write.ensures ∙ ap (λ (l : List ℕ). c.self.inside.log.events ++ Wrote c.args.at (slice_range l c.args.at (c.args.at + length xs)) ∷ []) (c.deref.ensures.value ∙ is) in
    held-next c.self.inside.first.items b now c.self.inside.log.events c.write.new.self.events
    (Wrote c.args.at (stored c.args.kept c.args.at xs b)) c.self.invariant (omega (arith, stored-long c.args.kept c.args.at xs b within c.requires.kept))
    (is ∙ sym (stored-after c.args.kept c.args.at xs b within c.requires.kept)) more

pub returns-clause-stored : goal.returns-clause-stored
returns-clause-stored c = grind (arith, common_steps)

pub returns-clause-whole : goal.returns-clause-whole
returns-clause-whole c = λ all. returns-clause-stored c
    ∙ ap (λ (l : List ℕ). noted (Wrote c.args.at l) c.args.self.now) (stored-all c.args.kept c.args.at c.args.piece.now (shown c.args.self.now) c.requires.range all)
