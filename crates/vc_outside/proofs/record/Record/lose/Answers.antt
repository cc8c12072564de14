use Rattle.std.proofs.Common.{◌≡◌, ℕ, List, [], ◌∷◌, ◌++◌, length, ◌∙◌, ap, rules}
use Rattle.vc_outside.specs.Laws.Log.{events_of}
use Rattle.vc_outside.specs.Record.{Lost}
use Rattle.vc_outside.specs.declared.record.Call.{Call}
use Rattle.vc_outside.specs.declared.record.Call.TheVariants.{Loss}
use Rattle.vc_outside.proofs.RecordGrows.{events-loss, log-added}
use Rattle.vc_outside.proofs.record.Record.lose.Goals as goal

pub returns : goal.returns
returns c =
    let from : c.len-from.result ≡ length c.self.inside.bytes.items = search rules in
    let held : c.extend_from_slice.new.self.items ≡ c.self.inside.bytes.items ++ c.args.piece.now = search rules in
    let calls : c.push_reserved.new.self.items ≡ c.self.inside.calls.items ++ Loss c.args.at (length c.self.inside.bytes.items) (length c.args.piece.now) ∷ []
    = c.push_reserved.ensures.items ∙ ap (λ n. c.self.inside.calls.items ++ Loss c.args.at n (length c.args.piece.now) ∷ []) from in
    let events = ap (λ (l : List ℕ). events_of l c.push_reserved.new.self.items) held
    ∙ ap (λ (l : List Call). events_of (c.self.inside.bytes.items ++ c.args.piece.now) l) calls
    ∙ events-loss c.self.inside.bytes.items c.args.piece.now c.args.at c.self.inside.calls.items c.self.invariant.ends in
    log-added _ _ _ _ c.self.inside.room (length c.args.piece.now) (Lost c.args.at c.args.piece.now) c.args.self.now c.self.view_is events (search rules)
