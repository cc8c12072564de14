use Rattle.std.proofs.Common.{rules, ◌∷◌, [], ap, sym, subst, ◌∙◌}
use Rattle.std.specs.List.{All}
use Rattle.sector_model.specs.Array.{AreSectors, Fits, sectors_of}
use Rattle.io_core.specs.Entries.{IsAnswered}
use Rattle.io_core.specs.Fragments.{IsWaiting}
use Rattle.io_core.specs.State.{write_of}
use Rattle.io_core.specs.declared.answers.Admit.{Admit}
use Rattle.io_core.specs.declared.prepared.Prepared.{Prepared}
use Rattle.io_queue.specs.Laws.Opens.{Opens}
use Rattle.io_queue.specs.Pass.{shape}
use Rattle.io_queue.proofs.Passes.{admitted_more, asked_more, later_is_not_in}
use Rattle.io_queue.proofs.volume.Volume.admit.Goals as goal

pub ask_once-answer-requires-clause-name : goal.ask_once-answer-requires-clause-name
ask_once-answer-requires-clause-name g c = λ l κ. (
  ap (λ (p : Prepared). p.caller) c.loop.invariant.5 ∙ c.requires.name.0 ∙ sym c.loop.invariant.4.same.number,
  ap (λ (p : Prepared). p.number) c.loop.invariant.5 ∙ c.requires.name.1,
)

pub ask_once-answer-requires-clause-whole : goal.ask_once-answer-requires-clause-whole
ask_once-answer-requires-clause-whole g c = λ l κ.
    subst (λ (p : Prepared). AreSectors (shape c.args.self.now.geometry) p.bytes.items) (sym c.loop.invariant.5) c.requires.whole

pub ask_once-answer-requires-clause-fits : goal.ask_once-answer-requires-clause-fits
ask_once-answer-requires-clause-fits g c = λ l κ.
    subst (λ (p : Prepared). Fits (shape c.args.self.now.geometry) p.first (sectors_of (shape c.args.self.now.geometry) p.bytes.items)) (sym c.loop.invariant.5) c.requires.fits

pub ask_once-answer-requires-clause-waiting : goal.ask_once-answer-requires-clause-waiting
ask_once-answer-requires-clause-waiting g c = λ l κ.
    subst (λ (p : Prepared). All IsWaiting p.parts.items) (sym c.loop.invariant.5) c.requires.waiting

pub returns-in-Err-clause-decided : goal.returns-in-Err-clause-decided
returns-in-Err-clause-decided g c = λ w e. let d = c.in-Err.ensures.decided in d.1 w (sym d.0 ∙ e)

pub returns-in-Err-clause-call : goal.returns-in-Err-clause-call
returns-in-Err-clause-call g c =
    admitted_more c.args.pass.now.seat.me.0 c.loop.pass.seat.me.0 c.ask_once-answer.new.pass.seat.me.0 (shape c.args.self.now.geometry)
    c.loop.asking c.args.write c.ask_once-answer.result c.in-Err.answer c.loop.invariant.5 c.in-Err.ensures.decided.0
    c.loop.invariant.4 c.ask_once-answer.ensures.call

pub returns-in-Err-clause-refused : goal.returns-in-Err-clause-refused
returns-in-Err-clause-refused g c = λ other. c.ask_once-answer.ensures.refused (λ e. other (c.in-Err.ensures.decided.0 ∙ e))

pub returns-in-Err-clause-admitted : goal.returns-in-Err-clause-admitted
returns-in-Err-clause-admitted g c = λ is.
    subst (λ (p : Prepared). Opens c.ask_once-answer.new.pass.seat.me.0 (write_of p ∷ [])) c.loop.invariant.5
    (c.ask_once-answer.ensures.admitted (sym c.in-Err.ensures.decided.0 ∙ is))

pub returns-in-Err-clause-asked : goal.returns-in-Err-clause-asked
returns-in-Err-clause-asked g c =
    asked_more c.args.pass.now.seat.me.0 c.loop.pass.seat.me.0 c.ask_once-answer.new.pass.seat.me.0 (shape c.args.self.now.geometry)
    c.loop.asking c.args.write c.ask_once-answer.result c.in-Err.answer c.loop.invariant.5 c.in-Err.ensures.decided.0
    c.loop.invariant.4 c.ask_once-answer.ensures.asked

pub loop-preserved : goal.loop-preserved
loop-preserved g c = let again = c.in-Ok.ensures.again in (
  search rules,
  search rules,
  c.ask_once-answer.ensures.pass,
  c.ask_once-answer.ensures.refused (later_is_not_in c.ask_once-answer.result c.in-Ok.again again),
  admitted_more c.args.pass.now.seat.me.0 c.loop.pass.seat.me.0 c.ask_once-answer.new.pass.seat.me.0 (shape c.args.self.now.geometry)
      c.loop.asking c.args.write c.ask_once-answer.result _ c.loop.invariant.5 (sym again)
      c.loop.invariant.4 c.ask_once-answer.ensures.call,
  subst (λ (x : Admit). IsAnswered c.loop.asking x) again c.ask_once-answer.ensures.answered ∙ c.loop.invariant.5,
)
