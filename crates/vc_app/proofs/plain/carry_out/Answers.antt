use Rattle.std.proofs.Common.{◌≡◌, sym, subst}
use Rattle.cmd_words.specs.Meaning.{meaning}
use Rattle.cmd_words.specs.declared.command.Command.{Command}
use Rattle.vc_app.specs.declared.status.Status.{Status}
use Rattle.vc_app.specs.Commands.{promise_of_line}
use Rattle.vc_app.specs.Promise.{Kept, Seen}
use Rattle.vc_app.proofs.plain.carry_out.Goals as goal

-- a command keeps its own promise, with the status of its result
kept : (x y : Command) (s t : Status) (old new : Seen) → x ≡ y → s ≡ t → Kept (promise_of_line (meaning y)) t old new
    → Kept (promise_of_line (meaning x)) s old new
kept x y s t old new x_is s_is own =
    subst (λ (c : Command). Kept (promise_of_line (meaning c)) s old new) (sym x_is)
    (subst (λ (s : Status). Kept (promise_of_line (meaning y)) s old new) (sym s_is) own)

pub returns-in-Format : goal.returns-in-Format
returns-in-Format g c = kept _ _ _ _ _ _ c.in-Format.is c.from.ensures c.run_format.ensures

pub returns-in-Hide : goal.returns-in-Hide
returns-in-Hide g c = kept _ _ _ _ _ _ c.in-Hide.is c.from-in-Hide.ensures c.run_hide.ensures

pub returns-in-Info : goal.returns-in-Info
returns-in-Info g c = kept _ _ _ _ _ _ c.in-Info.is c.from-in-Info.ensures c.run_info.ensures

pub returns-in-Cat : goal.returns-in-Cat
returns-in-Cat g c = kept _ _ _ _ _ _ c.in-Cat.is c.from-in-Cat.ensures c.run_cat.ensures

pub returns-in-Passwd : goal.returns-in-Passwd
returns-in-Passwd g c = kept _ _ _ _ _ _ c.in-Passwd.is c.from-in-Passwd.ensures c.run_passwd.ensures

pub returns-in-Restore : goal.returns-in-Restore
returns-in-Restore g c = kept _ _ _ _ _ _ c.in-Restore.is c.from-in-Restore.ensures c.run_restore.ensures

pub returns-in-Expand : goal.returns-in-Expand
returns-in-Expand g c = kept _ _ _ _ _ _ c.in-Expand.is c.from-in-Expand.ensures c.run_expand.ensures
