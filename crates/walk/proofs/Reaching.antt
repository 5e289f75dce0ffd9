-- The leg at `i` is reached: the figure with which it begins, its test, and what it leaves open. Where the figure does not
-- show the other side, nothing is matched.
use mathlib.Core.Path.{◌≡◌, sym, ap₂, ◌∙◌}
use mathlib.Core.List.{List}
use mathlib.Core.Bool.{Bool, cond}
use Prim.Native.Nat.{ℕ, ◌≤◌, ◌<◌, ◌+◌}
use native.Mathlib.Omega.{arith}
use lib.Dec.{eqb}
use lib.IntN.{ℤ, pos, nat_abs}
use lib.ListN.{length, get_or}
use mir.Syntax.{w64}
use mir.Val.{to_z, of_z}
use Rattle.rules.specs.OpenContracts.{sign, adjusted, shows_other}
use Rattle.keys.specs.Tags.{group_of, is_bought}
use Rattle.tagged.specs.declared.Step.{Step}
use Rattle.tagged.specs.Tags.{InSequence, Counts, Stands}
use Rattle.tagged.proofs.Signs.{sign_small, sign_held}
use Rattle.tagged.proofs.Figures.{count_at, figure_bound, figure_held, begins, closes}

module _ {tags left : List ℕ} (q : InSequence tags left) (i : ℕ) (h : i < length tags) where
  abbrev tx : ℕ
  tx = get_or tags i 0

  -- the figure with which the leg begins
  module _ {s : Step} (stands : Stands tags left (i + 1) s) {g : ℕ} (group_is : g ≡ group_of tx) {f : ℤ} (begun : f ≡ cond (eqb s.group g) (to_z w64 (of_z w64 s.figure)) (pos 0)) where
    first : Counts tags left i (i + 1) f
    first root second =
        begun
        ∙ ap₂ (λ (z : ℤ) (k : ℕ). cond (eqb s.group k) z (pos 0)) (figure_held tags left q (i + 1) (i + 1) s.figure stands.figure) group_is
        ∙ begins tags left q second root i s h stands

    pub kept : Counts tags left i (i + 1) (to_z w64 (of_z w64 f))
    kept root second = figure_held tags left q i (i + 1) f first ∙ first root second

  -- the leg's test
  module _ (f : ℤ) (counts : Counts tags left i (i + 1) f) {sgn : ℤ} (sign_is : sgn ≡ sign (is_bought tx)) where
    pub test_small : (nat_abs (to_z w64 (of_z w64 f)) ≤ 1000000) × (nat_abs (to_z w64 (of_z w64 sgn)) ≤ 1)
    test_small = (
      rw (figure_held tags left q i (i + 1) f counts) (omega (arith, figure_bound tags left q i (i + 1) f counts)),
      rw (sign_held (is_bought tx) sgn sign_is) (sign_small (is_bought tx)),
    )

    pub shown : {shows : Bool} → shows ≡ shows_other (to_z w64 (of_z w64 f)) (to_z w64 (of_z w64 sgn)) → shows_other f (sign (is_bought tx)) ≡ shows
    shown e = sym (e ∙ ap₂ (λ (z k : ℤ). shows_other z k) (figure_held tags left q i (i + 1) f counts) (sign_held (is_bought tx) sgn sign_is))

-- what the leg leaves open
module _ {tags after : List ℕ} (q : InSequence tags after) (i : ℕ) (h : i < length tags) (r : Step) (group_is : r.group ≡ group_of (get_or tags i 0)) (counts : Counts tags after i (i + 1) r.figure)
    {sgn : ℤ} (sign_is : sgn ≡ sign (is_bought (get_or tags i 0))) where
  pub rest_small : (nat_abs (to_z w64 (of_z w64 r.figure)) ≤ 1000000) × (nat_abs (to_z w64 (of_z w64 sgn)) ≤ 1) × (get_or after i 0 ≤ 1000000)
  rest_small = let t = test_small q i h r.figure counts sign_is in (t.0, t.1, omega (arith, count_at tags after q i h))

  pub leaves : {f : ℤ} → f ≡ adjusted (to_z w64 (of_z w64 r.figure)) (to_z w64 (of_z w64 sgn)) (get_or after i 0)
      → Stands tags after i (record { debits = r.debits; credits = r.credits; group = r.group; figure = to_z w64 (of_z w64 f) })
  leaves {f} e = record { figure = λ root second. figure_held tags after q i i f opened ∙ opened root second; group = λ l. group_is }
    where
      opened : Counts tags after i i f
      opened root second =
          e
          ∙ ap₂ (λ (z k : ℤ). adjusted z k (get_or after i 0)) (figure_held tags after q i (i + 1) r.figure counts ∙ counts root second) (sign_held (is_bought (get_or tags i 0)) sgn sign_is)
          ∙ closes tags after q second root i h
