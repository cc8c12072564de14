use Rattle.std.proofs.Common.{arith, map, rules}
use Rattle.std.specs.Prelude.{string_bytes}
use Rattle.secret_options.specs.Arguments.{meaning}
use Rattle.secret_options.proofs.Ends.{ends_closed, ends_open, found_unchanged}
use Rattle.secret_options.proofs.arguments.parts_of.Goals as goal

pub returns-in-Path-clause-missing : goal.returns-in-Path-clause-missing
returns-in-Path-clause-missing c _ =
    ends_open string_bytes (map meaning c.loop-word.found.items) c.loop-word.state c.loop-word.word-index c.args.words.now
    (omega (arith, c.loop-word-test.false)) c.loop-word.invariant c.in-Path.field-0 c.in-Path.is

pub returns-in_default-state : goal.returns-in_default-state
returns-in_default-state c =
    let whole = ends_closed string_bytes (map meaning c.loop-word.found.items) c.loop-word.state c.loop-word.word-index
    c.args.words.now (omega (arith, c.loop-word-test.false)) c.loop-word.invariant c.in_default-state.not-Path in
    record {
      parts = whole;
      missing = search rules;
      unchanged = λ e. found_unchanged _ _ whole e;
    }
