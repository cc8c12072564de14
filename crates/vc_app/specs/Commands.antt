-- The commands of this call, each with its promise: one line a command. Those of the other top call, `serve` and
-- `drill`, have none here.
--
-- promise_of arguments        the promise of a command line
use Rattle.std.specs.Prelude.{List, Option, Some, None}
use Rattle.cmd_words.specs.Line.{Line, Text, line, cat, format, hide, info, passwd, restore, expand}
use Rattle.vc_layout.specs.declared.kind.Kind.TheVariants.{StandardOnly}
use Rattle.vc_app.specs.Cat as cat_command
use Rattle.vc_app.specs.Expand as expand_command
use Rattle.vc_app.specs.Format as format_command
use Rattle.vc_app.specs.Hide as hide_command
use Rattle.vc_app.specs.Info as info_command
use Rattle.vc_app.specs.Passwd as passwd_command
use Rattle.vc_app.specs.Restore as restore_command
use Rattle.vc_app.specs.Promise.{Promise, no_command}

abbrev pub promise_of_line : Line → Promise
promise_of_line (format path size password random pim prf algorithm sector) =
    format_command.promise
    (record { password = password; pim = pim; prf = prf; algorithm = algorithm; size = size; sector = sector }) random
promise_of_line (hide path size password random pim prf algorithm sector) =
    hide_command.promise
    (record { password = password; pim = pim; prf = prf; algorithm = algorithm; size = size; sector = sector }) random
promise_of_line (info path password pim kind) =
    info_command.promise (record { password = password; pim = pim; kind = kind })
promise_of_line (cat path first count password pim kind) =
    cat_command.promise (record { first = first; count = count; access = record { password = password; pim = pim; kind = kind } })
promise_of_line (passwd path password new random pim new_pim new_prf kind) =
    passwd_command.promise
    (record { access = record { password = password; pim = pim; kind = kind }; password = new; pim = new_pim; prf = new_prf }) random
promise_of_line (restore path password random pim kind) =
    restore_command.promise (record { password = password; pim = pim; kind = kind }) random
promise_of_line (expand path size password random pim no_hidden) =
    expand_command.promise
    (record { access = record { password = password; pim = pim; kind = StandardOnly }; size = size }) random
promise_of_line _ = no_command

abbrev pub promise_by : Option Line → Promise
promise_by None = no_command
promise_by (Some l) = promise_of_line l

unfoldable pub promise_of : List Text → Promise
promise_of arguments = promise_by (line arguments)
