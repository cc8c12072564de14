-- What `info` promises: six lines about the header that is opened.
use Rattle.std.specs.Prelude.{ℕ, false, List, [], ◌∷◌, ◌++◌, codes}
use Rattle.std.specs.Fmt.{decimal}
use Rattle.kdf_hmac.specs.Prfs.{prf_name}
use Rattle.algorithm_names.specs.Algorithms.{name_of}
use Rattle.vc_layout.specs.Layout.{slot_name}
use Rattle.header_seal.specs.declared.opened.Opened.{Opened}
use Rattle.vc_app.specs.declared.access.Access.{Access}
use Rattle.vc_app.specs.declared.commands.info.InfoError.{InfoError}
use Rattle.vc_app.specs.declared.commands.info.InfoError.TheVariants as info
use Rattle.vc_app.specs.declared.status.Status.{Status}
use Rattle.vc_app.specs.Access.{over_opened}
use Rattle.vc_app.specs.Promise.{Promise, goes, nowhere}
use Rattle.vc_app.specs.Status.{open_status, work_status}

-- a name, a space, a value and the end of a line
abbrev pub text_line : List ℕ → List ℕ → List ℕ
text_line name value = name ++ (32 ∷ (value ++ (10 ∷ [])))

abbrev pub text_of : Opened → List ℕ
text_of o =
    ((((text_line (codes "slot") (slot_name o.slot)
    ++ text_line (codes "prf") (prf_name o.prf))
    ++ text_line (codes "algorithm") (name_of o.algorithm))
    ++ text_line (codes "start") (decimal o.fields.start))
    ++ text_line (codes "size") (decimal o.fields.volume_size))
    ++ text_line (codes "sector") (decimal o.fields.sector)

abbrev pub promise : Access → Promise
promise access = over_opened access [] false nowhere (λ o image. goes (record { image = image; output = text_of o }))

abbrev pub info_status : InfoError → Status
info_status (info.Open error) = open_status error
info_status (info.Work error) = work_status error
