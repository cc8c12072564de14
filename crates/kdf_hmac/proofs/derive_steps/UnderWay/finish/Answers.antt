use Rattle.std.proofs.Common.{◌≡◌, ap, ◌∙◌, subst, arith}
use Rattle.kdf_hmac.specs.Derivation.{Derivation}
use Rattle.kdf_hmac.specs.Pbkdf2.{block_count, pbkdf2_bytes}
use Rattle.kdf_hmac.specs.Laws.Progress.{steps_left}
use Rattle.kdf_hmac.proofs.Blocks.{all_done, all_bytes}
use Rattle.kdf_hmac.proofs.derive_steps.UnderWay.finish.Goals as goal

pub returns : goal.returns
returns g c =
    let prf = g.H.Hasher.prf in
    let a = c.self.inside in
    let now = c.self.invariant in
    let none : steps_left prf a.iterations a.finished a.steps ≡ 0
    = ap (λ (d : Derivation). d.left) c.self.view_is ∙ c.requires in
    let all : a.finished ≡ block_count prf 192
    = all_done (block_count prf 192) a.iterations a.finished a.steps now.within now.short none in
    subst (λ (d : Derivation). a.out ≡ pbkdf2_bytes d.prf d.password d.salt d.iterations 192) c.self.view_is
    (all_bytes prf a.password a.salt a.iterations 192 a.out a.finished (omega arith) all now.finished)
