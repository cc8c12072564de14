use Rattle.std.proofs.Common.{◌≡◌, ℕ, List, [], ◌++◌, replicate, refl, ap, ◌∙◌, arith}
use Rattle.std.proofs.lemmas.List.{append-nil}
use Rattle.vc_header.proofs.Writing.{put_between}
use Rattle.vc_header.proofs.view.header_of.Goals as goal

pub returns : goal.returns
returns c =
    let salt : List ℕ = c.args.salt.now in
    let body : List ℕ = c.args.body.now in
    let first : c.put.new.bytes ≡ [] ++ salt ++ replicate 448 0
    = put_between [] (replicate 64 0) (replicate 448 0) salt (replicate 512 0) c.put.new.bytes {at = 0} refl refl
    (omega arith) c.put.ensures in
    let whole : c.put.new.bytes ≡ salt ++ (replicate 448 0 ++ [])
    = first ∙ ap (λ (xs : List ℕ). salt ++ xs) (append-nil (replicate 448 0)) in
    put_between salt (replicate 448 0) [] body c.put.new.bytes c.put-2.new.bytes {at = 64} whole (omega arith)
    (omega arith) c.put-2.ensures
    ∙ append-nil (salt ++ body)
