use Rattle.std.proofs.Common.{List, ℕ, [], ◌∷◌}
use Rattle.aes_core.proofs.Exchanges.{mask_1, mask_2, mask_4, transposed_is}
use Rattle.aes_core.proofs.planes.transposed.Goals as goal

pub exchanged-requires-clause-mask : goal.exchanged-requires-clause-mask
exchanged-requires-clause-mask c = mask_1

pub exchanged-requires-2-clause-mask : goal.exchanged-requires-2-clause-mask
exchanged-requires-2-clause-mask c = mask_1

pub exchanged-requires-3-clause-mask : goal.exchanged-requires-3-clause-mask
exchanged-requires-3-clause-mask c = mask_1

pub exchanged-requires-4-clause-mask : goal.exchanged-requires-4-clause-mask
exchanged-requires-4-clause-mask c = mask_1

pub exchanged-requires-5-clause-mask : goal.exchanged-requires-5-clause-mask
exchanged-requires-5-clause-mask c = mask_2

pub exchanged-requires-6-clause-mask : goal.exchanged-requires-6-clause-mask
exchanged-requires-6-clause-mask c = mask_2

pub exchanged-requires-7-clause-mask : goal.exchanged-requires-7-clause-mask
exchanged-requires-7-clause-mask c = mask_2

pub exchanged-requires-8-clause-mask : goal.exchanged-requires-8-clause-mask
exchanged-requires-8-clause-mask c = mask_2

pub exchanged-requires-9-clause-mask : goal.exchanged-requires-9-clause-mask
exchanged-requires-9-clause-mask c = mask_4

pub exchanged-requires-10-clause-mask : goal.exchanged-requires-10-clause-mask
exchanged-requires-10-clause-mask c = mask_4

pub exchanged-requires-11-clause-mask : goal.exchanged-requires-11-clause-mask
exchanged-requires-11-clause-mask c = mask_4

pub exchanged-requires-12-clause-mask : goal.exchanged-requires-12-clause-mask
exchanged-requires-12-clause-mask c = mask_4

pub returns : goal.returns
returns c =
    let y : List (List ℕ) = c.exchanged.result.0 ∷ c.exchanged.result.1 ∷ c.exchanged-2.result.0 ∷ c.exchanged-2.result.1
    ∷ c.exchanged-3.result.0 ∷ c.exchanged-3.result.1 ∷ c.exchanged-4.result.0 ∷ c.exchanged-4.result.1 ∷ [] in
    let z : List (List ℕ) = c.exchanged-5.result.0 ∷ c.exchanged-6.result.0 ∷ c.exchanged-5.result.1 ∷ c.exchanged-6.result.1
    ∷ c.exchanged-7.result.0 ∷ c.exchanged-8.result.0 ∷ c.exchanged-7.result.1 ∷ c.exchanged-8.result.1 ∷ [] in
    let w : List (List ℕ) = c.exchanged-9.result.0 ∷ c.exchanged-10.result.0 ∷ c.exchanged-11.result.0 ∷ c.exchanged-12.result.0
    ∷ c.exchanged-9.result.1 ∷ c.exchanged-10.result.1 ∷ c.exchanged-11.result.1 ∷ c.exchanged-12.result.1 ∷ [] in
    transposed_is c.args.x y z w c.requires
    (record { one = c.exchanged.ensures; two = c.exchanged-2.ensures; three = c.exchanged-3.ensures; four = c.exchanged-4.ensures })
    (record { one = c.exchanged-5.ensures; two = c.exchanged-6.ensures; three = c.exchanged-7.ensures; four = c.exchanged-8.ensures })
    (record { one = c.exchanged-9.ensures; two = c.exchanged-10.ensures; three = c.exchanged-11.ensures; four = c.exchanged-12.ensures })
