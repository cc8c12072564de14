-- What `format` promises: a new container from the stream of a random key, and the line `ok`.
use Rattle.std.specs.Prelude.{◌≡◌, ℕ, false, List, [], ◌∷◌, ◌++◌, codes, Some}
use Rattle.rand_chacha.specs.ChaCha.{of_seed}
use Rattle.vc_layout.specs.Layout.{IsFormattable}
use Rattle.volume_format.specs.Formatted.{formatted}
use Rattle.volume_format.specs.declared.outer.FormatSpec.{FormatSpec}
use Rattle.vc_app.specs.declared.commands.format.FormatError.{FormatError}
use Rattle.vc_app.specs.declared.commands.format.FormatError.TheVariants as format
use Rattle.vc_app.specs.declared.status.Status.{Status}
use Rattle.vc_app.specs.declared.status.Status.TheVariants.{BadSize}
use Rattle.vc_app.specs.Promise.{Plan, Promise, anywhere, goes}
use Rattle.vc_app.specs.Status.{work_status}

abbrev pub done_line : List ℕ
done_line = codes "ok" ++ 10 ∷ []

abbrev pub plan_of : FormatSpec → List ℕ → Plan
plan_of spec random = record { image = formatted (of_seed random) spec; output = done_line }

-- What was in the container decides nothing.
abbrev pub promise : FormatSpec → List ℕ → Promise
promise spec random = record {
  admits = λ len. IsFormattable spec.size spec.sector;
  early = λ len s. s ≡ BadSize;
  late = [];
  plan = λ image. Some (goes (plan_of spec random));
  reach = anywhere;
  length_left = λ len. spec.size;
  streams = false;
}

abbrev pub format_status : FormatError → Status
format_status format.BadSize = BadSize
format_status (format.Work error) = work_status error
