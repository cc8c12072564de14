use Rattle.hist_lock.proofs.turn.act_once.Given as goal

-- The entries are those that the act adds, by the act and the value before and after.
abbrev pub ghosts-pass_on : goal.ghosts-pass_on
ghosts-pass_on g a = record { added = g.A.Act.adds a.asked.now.value a.before.now.value a.answered.now.value a.after.now.value a.caller }
