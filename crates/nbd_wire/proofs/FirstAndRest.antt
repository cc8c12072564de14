-- The requests of bytes are the first one and those of the bytes after it.
--
-- `frames` counts down from the number of bytes, so that it ends. Any greater number gives the same, since each request
-- leaves fewer bytes than there were.
use Rattle.std.proofs.Common.{◌≡◌, ◌<◌, ℕ, zero, suc, ◌==◌, nat_lt, Bool, true, false, List, [], ◌∷◌, length, take, drop, if◌then◌else◌, refl, ap, arith}
use Rattle.std.specs.Prelude.{⊤}
use Rattle.std.proofs.lemmas.List.{length-drop}
use Rattle.nbd_wire.specs.declared.request.Request.{Request}
use Rattle.nbd_wire.specs.Frames.{after_head, followed, Frames, frames, frames_up_to, payload_length, Start, over, short, wrong, leaves, asks, start}
use Rattle.nbd_wire.specs.Wire.{has_magic, request_of}

-- after a request there are fewer than n bytes
abbrev pub LeavesFewer : ℕ → Start → Type 0
LeavesFewer n (asks r payload rest) = length rest < n
LeavesFewer n over = ⊤
LeavesFewer n short = ⊤
LeavesFewer n (wrong magic) = ⊤
LeavesFewer n (leaves rest) = ⊤

-- what holds of both holds of the one that a test picks
pub of_both : {X : Type 0} (P : X → Type 0) (b : Bool) (x y : X) → P x → P y → P (if b then x else y)
of_both P true x y of_x of_y = of_x
of_both P false x y of_x of_y = of_y

fewer_after_head : (n : ℕ) (r : Request) (rest : List ℕ) → length rest < n → LeavesFewer n (after_head r rest)
fewer_after_head n r rest below =
    let k : ℕ = payload_length r in
    let whole : Start = asks r (take k rest) (drop k rest) in
    let paid : Start = (if nat_lt (length rest) k then short else whole) in
    of_both (LeavesFewer n) (r.kind == 2) (leaves rest) paid tt
    (of_both (LeavesFewer n) (nat_lt (length rest) k) short whole tt
    (omega (arith, below, length-drop k rest)))

fewer_of_some : (b : ℕ) (bytes : List ℕ) → LeavesFewer (length (b ∷ bytes)) (start (b ∷ bytes))
fewer_of_some b bytes =
    let all : List ℕ = b ∷ bytes in
    let head : Start = after_head (request_of all) (drop 28 all) in
    let known : Start = (if nat_lt (length all) 28 then short else head) in
    let bad : Start = wrong (take 4 all) in
    let some : Start = (if has_magic all then known else bad) in
    let judged : Start = (if nat_lt (length all) 4 then short else some) in
    of_both (LeavesFewer (length all)) (length all == 0) over judged tt
    (of_both (LeavesFewer (length all)) (nat_lt (length all) 4) short some tt
    (of_both (LeavesFewer (length all)) (has_magic all) known bad
    (of_both (LeavesFewer (length all)) (nat_lt (length all) 28) short head tt
    (fewer_after_head (length all) (request_of all) (drop 28 all) (omega (arith, length-drop 28 all))))
    tt))

pub fewer_left : (bytes : List ℕ) → LeavesFewer (length bytes) (start bytes)
fewer_left [] = tt
fewer_left (b ∷ bytes) = fewer_of_some b bytes

-- two ways to go on that agree on fewer bytes
same_onward : (s : Start) (f g : List ℕ → Frames) (n : ℕ) → LeavesFewer n s → ((rest : List ℕ) → length rest < n → f rest ≡ g rest) → followed s f ≡ followed s g
same_onward over f g n fewer same = refl
same_onward short f g n fewer same = refl
same_onward (wrong magic) f g n fewer same = refl
same_onward (leaves rest) f g n fewer same = refl
same_onward (asks r payload rest) f g n fewer same =
    ap (λ (more : Frames). followed (asks r payload rest) (λ _. more)) (same rest fewer)

any_count : (n m : ℕ) (bytes : List ℕ) → length bytes < n → length bytes < m → frames_up_to n bytes ≡ frames_up_to m bytes
any_count zero m bytes in_n in_m = absurd (omega (arith, in_n))
any_count (suc n) zero bytes in_n in_m = absurd (omega (arith, in_m))
any_count (suc n) (suc m) bytes in_n in_m =
    same_onward (start bytes) (frames_up_to n) (frames_up_to m) (length bytes) (fewer_left bytes)
    (λ rest fewer. any_count n m rest (omega (arith, fewer, in_n)) (omega (arith, fewer, in_m)))

-- the result
pub frames-start : (bytes : List ℕ) → frames bytes ≡ followed (start bytes) frames
frames-start bytes =
    same_onward (start bytes) (frames_up_to (length bytes)) frames (length bytes) (fewer_left bytes)
    (λ rest fewer. any_count (length bytes) (suc (length rest)) rest fewer (omega arith))
