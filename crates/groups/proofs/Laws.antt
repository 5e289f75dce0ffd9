-- What a tag outside the groups changes.
use mathlib.Core.Path.{◌≡◌, refl, ap}
use mathlib.Core.Bool.{Bool, true, false, ◌||◌, or-true}
use mathlib.Core.Logic.{◌⊎◌, inl, inr}
use Prim.Native.Nat.{ℕ, ◌*◌, ◌≤◌, ◌<◌}
use native.Mathlib.Omega.{arith}
use lib.Dec.{eqb}
use borrow.Author.Tests.{eqb-true, eqb-false, ne_eqb}
use Rattle.rules.proofs.Tests.{and_no, and_true, or_false}
use Rattle.groups.specs.declared.Sequence.{Sequence}
use Rattle.groups.specs.Sequence.{outside}

-- the two tags that code tests as a range
pub either_tag : (t : ℕ) → 623 ≤ t → t < 625 → (t ≡ 623) ⊎ (t ≡ 624)
either_tag t low high = go (eqb t 623) refl
  where
    go : (b : Bool) → eqb t 623 ≡ b → (t ≡ 623) ⊎ (t ≡ 624)
    go true e = inl (eqb-true t 623 e)
    go false e = let n = eqb-false t 623 e in inr (omega arith)

module _ (q : Sequence) (legs : ℕ) where
  -- outside the groups no field of theirs is left
  module _ (none : q.left ≡ 0) where
    pub kind_outside : record { kind = true; price = q.price; legs = q.legs; left = q.left; wrong = q.wrong || q.kind } ≡ outside q 40 legs
    unfolding outside
    kind_outside = simp (none, or-true, or_false, and_true, and_no)

    pub price_outside : record { kind = q.kind; price = true; legs = q.legs; left = q.left; wrong = q.wrong || q.price } ≡ outside q 44 legs
    unfolding outside
    price_outside = simp (none, or-true, or_false, and_true, and_no)

    -- a tag of a group is out of sequence
    pub group_outside : (t : ℕ) → (t ≡ 600) ⊎ ((t ≡ 623) ⊎ (t ≡ 624)) → record { kind = q.kind; price = q.price; legs = q.legs; left = q.left; wrong = true } ≡ outside q t legs
    unfolding outside
    group_outside t (inl e) = simp (none, e, or-true, or_false, and_no)
    group_outside t (inr (inl e)) = simp (none, e, or-true, or_false, and_no)
    group_outside t (inr (inr e)) = simp (none, e, or-true, or_false, and_no)

  pub legs_outside : record { kind = q.kind; price = q.price; legs = true; left = 3 * legs; wrong = q.wrong || q.legs } ≡ outside q 555 legs
  unfolding outside
  legs_outside = simp (or-true, or_false, and_true, and_no)

  -- a further tag changes nothing
  pub further_outside : (t : ℕ) → q.left ≡ 0 → (t ≡ 40 → ⊥) → (t ≡ 44 → ⊥) → (t ≡ 555 → ⊥) → (t ≡ 600 → ⊥) → (t ≡ 623 → ⊥) → (t ≡ 624 → ⊥) → q ≡ outside q t legs
  unfolding outside
  further_outside t e n40 n44 n555 n600 n623 n624 =
      simp (ne_eqb t 40 n40, ne_eqb t 44 n44, ne_eqb t 555 n555, ne_eqb t 600 n600, ne_eqb t 623 n623, ne_eqb t 624 n624, or_false, and_no)
      (ap (λ (n : ℕ). record { kind = q.kind; price = q.price; legs = q.legs; left = n; wrong = q.wrong }) e)
