-- The first pending write of a name: if one of them has the name, it is found.
use Rattle.std.proofs.Common.{◌≡◌, ◌<◌, inl, inr, ℕ, zero, suc, Bool, cond, List, [], ◌∷◌, Some, length, refl, sym, ap, subst, ◌∙◌, arith}
use Rattle.std.specs.List.{Any}
use Rattle.std.proofs.lemmas.Bool.Decides.{eqb_tells}
use Rattle.sector_model.specs.History.{HasName}
use Rattle.io_core.specs.Named.{named}
use Rattle.io_core.specs.State.{write_of}
use Rattle.io_core.specs.declared.prepared.Prepared.{Prepared}
use Rattle.io_core.proofs.EndedMarks.{is_named, not_named}

-- the write that is found
pub record IsFound (caller number : ℕ) (ps : List Prepared) : Type 0 where
  pub write : Prepared
  pub is : named caller number ps ≡ Some write
  pub any : Any (λ p. HasName caller number (write_of p) × (p ≡ write)) ps

module _ (caller number : ℕ) where
  here : (p : Prepared) (ps : List Prepared) → HasName caller number (write_of p) → IsFound caller number (p ∷ ps)
  here p ps has = record {
    write = p;
    is = ap (λ (b : Bool). cond b (Some p) (named caller number ps)) (is_named caller number (write_of p) has);
    any = (0, p, omega arith, refl, (has, refl));
  }

  there : (p : Prepared) (ps : List Prepared) → ¬ HasName caller number (write_of p) → IsFound caller number ps → IsFound caller number (p ∷ ps)
  there p ps other f = record {
    write = f.write;
    is = ap (λ (b : Bool). cond b (Some p) (named caller number ps)) (not_named caller number (write_of p) other) ∙ f.is;
    any = (suc f.any.0, f.any.1, omega (arith, f.any.2), f.any.3, f.any.4);
  }

  pub found : (ps : List Prepared) → Any (λ p. HasName caller number (write_of p)) ps → IsFound caller number ps
  found [] any = absurd (omega (arith, any.2))
  found (p ∷ ps) any = elim (eqb_tells p.caller caller) [
    | inr (f, other) ↦ there p ps (λ has. other has.0) (found ps (later any (λ has. other has.0)))
    | inl (t, same) ↦ elim (eqb_tells p.number number) [
      | inr (f, other) ↦ there p ps (λ has. other has.1) (found ps (later any (λ has. other has.1)))
      | inl (u, too) ↦ here p ps (same, too)
    ]
  ]
    where
      later : Any (λ q. HasName caller number (write_of q)) (p ∷ ps) → ¬ HasName caller number (write_of p)
          → Any (λ q. HasName caller number (write_of q)) ps
      later (zero, q, within, is, has) other = absurd (other (subst (λ (x : Prepared). HasName caller number (write_of x)) (sym is) has))
      later (suc k, q, within, is, has) other = (k, q, omega arith, is, has)
