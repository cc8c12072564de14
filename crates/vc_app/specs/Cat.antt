-- What `cat` promises: the asked sectors of the volume that is opened, deciphered.
use Rattle.std.specs.Prelude.{ℕ, ◌+◌, ◌/◌, Bool, true, if◌then◌else◌, nat_le, List, [], ◌∷◌}
use Rattle.cascade_set.specs.declared.keys.Keys.{Keys}
use Rattle.cascade_set.specs.Volume.{plain_sectors}
use Rattle.header_seal.specs.declared.opened.Opened.{Opened}
use Rattle.vc_app.specs.declared.commands.cat.Cat.{Cat}
use Rattle.vc_app.specs.declared.commands.cat.CatError.{CatError}
use Rattle.vc_app.specs.declared.commands.cat.CatError.TheVariants as cat
use Rattle.vc_app.specs.declared.status.Status.{Status}
use Rattle.vc_app.specs.declared.status.Status.TheVariants.{BadSize}
use Rattle.vc_app.specs.Access.{over_opened}
use Rattle.vc_app.specs.Promise.{Outcome, Promise, goes, nowhere, refused}
use Rattle.vc_app.specs.Status.{open_status, work_status}

-- the keys of an opened volume
abbrev pub keys_of : Opened → Keys
keys_of o = record { algorithm = o.algorithm; material = o.fields.material }

-- the asked sectors of the opened volume
abbrev pub asked : Cat → Opened → List ℕ → List ℕ
asked command o image =
    plain_sectors (keys_of o) o.fields.start (o.fields.sector / 512) image command.first command.count

-- the volume has the asked sectors
abbrev pub is_inside : Cat → Opened → Bool
is_inside command o = nat_le (command.first + command.count) (o.fields.volume_size / o.fields.sector)

abbrev pub outcome : Cat → Opened → List ℕ → Outcome
outcome command o image =
    if is_inside command o then goes (record { image = image; output = asked command o image }) else refused BadSize

abbrev pub promise : Cat → Promise
promise command = over_opened command.access (BadSize ∷ []) true nowhere (outcome command)

abbrev pub cat_status : CatError → Status
cat_status (cat.Open error) = open_status error
cat_status cat.BadSize = BadSize
cat_status (cat.Work error) = work_status error
