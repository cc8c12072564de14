use Rattle.std.proofs.Common.{◌≡◌, ℕ, ◌<◌, ◌*◌, take, length, refl, sym, ap, ◌∙◌, subst, arith}
use Rattle.kdf_hmac.specs.Hmac.{output_length}
use Rattle.kdf_hmac.specs.Laws.Progress.{Filled, block}
use Rattle.kdf_hmac.proofs.Blocks.{blocks_as_long, filled_as, filled_more}
use Rattle.kdf_hmac.proofs.block.put_block.Goals as goal

pub returns : goal.returns
returns g c p s iterations sum_is before =
    let prf = g.H.Hasher.prf in
    let n_is = c.output_length-length.ensures in
    let n = c.output_length-length.result in
    let i = c.args.i in
    let l = length c.args.out.now in
    let f = block prf p s iterations in
    let here : Filled f n l c.args.out.now i = filled_as f (output_length prf) n l l c.args.out.now i (sym n_is) refl before in
    let first : take n c.args.sum.now ≡ f i = ap (λ (k : ℕ). take k c.args.sum.now) n_is ∙ sum_is in
    let inside : n * i < l = subst (λ (k : ℕ). k * i < l) (sym n_is) c.requires in
    filled_as f n (output_length prf) l l _ _ n_is refl
    (filled_more f n l c.args.out.now c.args.sum.now c.copy_from_slice.new.self i _
    (λ j. blocks_as_long prf p s iterations j ∙ sym n_is) here (omega arith) first inside (omega (arith, inside, c.min.ensures))
    c.copy_from_slice.ensures.after)
