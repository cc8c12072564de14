-- The limits that the values of a line keep.
use Rattle.std.specs.Prelude.{ℕ, ◌≤◌, ◌<◌, ◌^◌, Option, IfSome}
use Rattle.kdf_hmac.specs.Pbkdf2.{IsPim}
use Rattle.vc_layout.specs.Layout.{IsSectorSize}
use Rattle.cmd_words.specs.Line.{Line, Text, format, hide, info, cat, passwd, restore, expand, serve, drill}

pub record IsMakingInRange (pim sector : ℕ) : Type 0 where
  pub pim_in : IsPim pim
  pub sector_in : IsSectorSize sector

pub record IsPasswdInRange (pim new_pim : ℕ) : Type 0 where
  pub pim_in : IsPim pim
  pub new_pim_in : IsPim new_pim

pub record IsServeInRange (pim : ℕ) (protect : Option (Text × ℕ)) (helpers workers : ℕ) : Type 0 where
  pub pim_in : IsPim pim
  pub protect_in : IfSome protect (λ p. IsPim p.1)
  pub helpers_most : helpers ≤ 8
  pub workers_least : 1 ≤ workers
  pub workers_most : workers ≤ 8

abbrev pub IsInRange : Line → Type 0
IsInRange (format path size password random pim prf algorithm sector) = IsMakingInRange pim sector
IsInRange (hide path size password random pim prf algorithm sector) = IsMakingInRange pim sector
IsInRange (info path password pim kind) = IsPim pim
IsInRange (cat path first count password pim kind) = IsPim pim
IsInRange (passwd path password new_password random pim new_pim new_prf kind) = IsPasswdInRange pim new_pim
IsInRange (restore path password random pim kind) = IsPim pim
IsInRange (expand path size password random pim no_hidden) = IsPim pim
IsInRange (serve path password pim kind protect helpers workers handshake) = IsServeInRange pim protect helpers workers
IsInRange (drill n) = n < 2 ^ 32
