-- Clauses on what a call returned.
use Rattle.std.proofs.Common.{◌≡◌, true, Result, Ok, Err, OnOk, OnErr, is_ok, refl}
use Rattle.std.specs.Prelude.{IsErrOf}
use Rattle.vc_outside.specs.declared.sink.OutError.{OutError}
use Rattle.vc_outside.specs.declared.sink.OutError.TheVariants.{Failed, NoMemory}

pub on_ok : {T E : Type 0} (r : Result T E) (P : Type 0) → (is_ok r ≡ true → P) → OnOk r P
on_ok (Ok x) P holds = holds refl
on_ok (Err e) P holds = tt

pub on_err : {T E : Type 0} (r : Result T E) (P : Type 0) → P → OnErr r P
on_err (Ok x) P holds = tt
on_err (Err e) P holds = holds

pub weaken : {T E : Type 0} (r : Result T E) (P Q : Type 0) → OnOk r P → (P → Q) → OnOk r Q
weaken (Ok x) P Q here f = f here
weaken (Err e) P Q here f = tt

-- what holds after each result
pub each : {T E : Type 0} (r : Result T E) (P Q R : Type 0) → OnOk r P → OnErr r Q → (P → R) → (Q → R) → R
each (Ok x) P Q R here other f g = f here
each (Err e) P Q R here other f g = g other

pub each_of : {T : Type 0} (r : Result T OutError) (P Q R S : Type 0) → OnOk r P → (IsErrOf r Failed → Q) → (IsErrOf r NoMemory → R) → (P → S) → (Q → S) → (R → S) → S
each_of (Ok x) P Q R S here failed memory f g h = f here
each_of (Err Failed) P Q R S here failed memory f g h = g (failed refl)
each_of (Err NoMemory) P Q R S here failed memory f g h = h (memory refl)
