-- What `hide` promises: the headers of a new hidden volume from the stream of a random key, and the line `ok`.
use Rattle.std.specs.Prelude.{◌≡◌, ◌⊎◌, ℕ, ⊤, false, List, [], option_map}
use Rattle.rand_chacha.specs.ChaCha.{of_seed}
use Rattle.vc_layout.specs.Layout.{IsContainerLength, IsHideable}
use Rattle.volume_format.specs.Hidden.{formatted_hidden, OnlyHiddenSlots}
use Rattle.volume_format.specs.declared.hidden.HiddenSpec.{HiddenSpec}
use Rattle.vc_app.specs.declared.commands.hide.HideError.{HideError}
use Rattle.vc_app.specs.declared.commands.hide.HideError.TheVariants as hide
use Rattle.vc_app.specs.declared.status.Status.{Status}
use Rattle.vc_app.specs.declared.status.Status.TheVariants.{BadSize, Length}
use Rattle.vc_app.specs.Format.{done_line}
use Rattle.vc_app.specs.Promise.{Plan, Promise, goes, part}
use Rattle.vc_app.specs.Status.{work_status}

abbrev pub hidden_plan : HiddenSpec → List ℕ → List ℕ → Plan
hidden_plan spec random image = record { image = formatted_hidden (of_seed random) spec image; output = done_line }

-- the status of a refusal: the length is no container's, or the size doesn't fit it
abbrev pub RefusedWith : ℕ → Status → Type 0
RefusedWith len s = (¬ IsContainerLength len × (s ≡ Length len)) ⊎ (IsContainerLength len × (s ≡ BadSize))

-- It opens nothing, so that only the container's length can refuse it.
abbrev pub promise : HiddenSpec → List ℕ → Promise
promise spec random = record {
  admits = λ len. IsHideable len spec.size spec.sector;
  early = RefusedWith;
  late = [];
  plan = option_map (λ image. goes (hidden_plan spec random image));
  reach = part OnlyHiddenSlots (λ image could c. ⊤);
  length_left = λ len. len;
  streams = false;
}

abbrev pub hide_status : HideError → Status
hide_status (hide.Length len) = Length len
hide_status hide.BadSize = BadSize
hide_status (hide.Work error) = work_status error
