-- What a crash may leave of calls that change nothing, one after another.
use Rattle.std.proofs.Common.{◌≡◌, ◌≤◌, ℕ, Bool, true, List, refl, sym, subst, arith, inl, inr}
use Rattle.std.specs.Prelude.{◌⊎◌}
use Rattle.vc_outside.specs.Crash.{Outcomes, Stays}

-- no call
pub nothing_more : (tells : Bool) (now : ℕ) (since : ℕ → List ℕ → Type 0) (can : List ℕ → Type 0)
    → Outcomes tells now now since since can can Stays
nothing_more tells now since can = record {
  follows = λ _ c left. (c, left, refl);
  later = λ _. omega arith;
  nothing_else = λ _ t c before left. inl left;
  keeps = λ _ t c before left. left;
}

-- What a crash might leave at the middle is counted among what it might have left since any moment before.
pub nothing_more_twice : (tells : Bool) (before middle now : ℕ) (first second third : ℕ → List ℕ → Type 0)
    (could between can : List ℕ → Type 0)
    → (tells ≡ true → (t : ℕ) (c : List ℕ) → t ≤ before → could c → first t c)
    → Outcomes tells before middle first second could between Stays
    → Outcomes tells middle now second third between can Stays
    → Outcomes tells before now first third could can Stays
nothing_more_twice tells before middle now first second third could between can counts one two = record {
  follows = λ modelled c left.
      let near = two.follows modelled c left in
      let far = one.follows modelled near.0 near.1 in
      (far.0, far.1, sym_chain far.0 near.0 c far.2 near.2);
  later = λ modelled. omega (arith, one.later modelled, two.later modelled);
  nothing_else = λ modelled t c from left.
      elim (two.nothing_else modelled t c (omega (arith, one.later modelled, from)) left) [
        | inl earlier ↦ elim (one.nothing_else modelled t c from earlier) [
          | inl past ↦ inl past
          | inr middle_left ↦ inl (counts modelled t c from (was modelled c middle_left))
        ]
        | inr now_left ↦ inr now_left
      ];
  keeps = λ modelled t c from past.
      two.keeps modelled t c (omega (arith, one.later modelled, from)) (one.keeps modelled t c from past);
}
  where
    sym_chain : (a b c : List ℕ) → b ≡ a → c ≡ b → c ≡ a
    sym_chain a b c first_step second_step = subst (λ (x : List ℕ). c ≡ x) first_step second_step

    was : tells ≡ true → (c : List ℕ) → between c → could c
    was modelled c left =
        let step = one.follows modelled c left in
        subst could (sym step.2) step.1
