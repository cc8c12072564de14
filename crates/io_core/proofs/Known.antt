-- Facts of two images that may be unknown. They compose, and a lemma on lists gives one on images.
use Rattle.std.proofs.Common.{◌≡◌, Option, Some, None, sym, subst}
use Rattle.vc_outside.specs.Told.{Both}

module _ {A : Type 0} where
  pub both_same : (x : Option A) (P : A → A → Type 0) → ((a : A) → P a a) → Both x x P
  both_same None P each = tt
  both_same (Some a) P each = each a

  pub both_weaker : (x y : Option A) (P Q : A → A → Type 0) → ((a b : A) → P a b → Q a b) → Both x y P → Both x y Q
  both_weaker None y P Q weaker h = tt
  both_weaker (Some a) None P Q weaker h = h
  both_weaker (Some a) (Some b) P Q weaker h = weaker a b h

  pub both_step : (x y z : Option A) (P Q R : A → A → Type 0) → ((a b c : A) → P a b → Q b c → R a c)
      → Both x y P → Both y z Q → Both x z R
  both_step None y z P Q R step h k = tt
  both_step (Some a) None z P Q R step h k = absurd h
  both_step (Some a) (Some b) None P Q R step h k = k
  both_step (Some a) (Some b) (Some c) P Q R step h k = step a b c h k

  -- the image is as it was
  pub both_still : (x y z : Option A) (P R : A → A → Type 0) → z ≡ y → ((a b : A) → P a b → R a b)
      → Both x y P → Both x z R
  both_still x y z P R same weaker h = subst (λ o. Both x o R) (sym same) (both_weaker x y P R weaker h)
