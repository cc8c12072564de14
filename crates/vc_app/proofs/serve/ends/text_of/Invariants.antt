-- The lines so far and those that are left are all lines.
use Rattle.std.proofs.Common.{◌≡◌, ◌++◌, drop}
use Rattle.std.specs.Prelude.{string_bytes}
use Rattle.vc_app.specs.Serve.{lines}
use Rattle.vc_app.proofs.serve.ends.text_of.Given as goal

abbrev pub invariant-clients : goal.invariant-clients
invariant-clients l =
    string_bytes l.text ++ lines l.i (drop l.i l.hands) (drop l.i l.ends) (drop l.i l.replies) ≡ lines 0 l.hands l.ends l.replies
