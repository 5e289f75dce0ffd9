-- The first field with a tag, found from field to field: its value, what stands behind it, and that its places are the message's.
use mathlib.Core.Path.{◌≡◌, refl}
use mathlib.Core.List.{List, [], ◌∷◌}
use mathlib.Core.Bool.{Bool, true, false, cond}
use Prim.Native.Nat.{ℕ, suc, ◌+◌}
use native.Mathlib.Omega.{arith}
use lib.Dec.{eqb}
use lib.ListN.{length, drop}
use Rattle.rules.specs.Lists.{all}
use Rattle.rules.specs.Fix.{fields_of, is_field, tag_of, how_often, value_at, behind}
use Rattle.rules.proofs.Tests.{and_both}
use Rattle.fields.specs.declared.Field.{Field}
use Rattle.fields.specs.Fields.{Inside, value_in}
use Rattle.fields.proofs.Laws.{behind_at}
use Rattle.scan_laws.specs.Runs.{first_with}
use Rattle.scan_laws.proofs.Standing.{Standing, one_inside, one_value, behind_one}

-- what is known of the field `g`, the first with the tag `t` among `fs`
pub record IsFirst (m : List ℕ) (t : ℕ) (fs : List (List ℕ)) (g : Field) : Type 0 where
  pub value : value_in m g ≡ value_at t fs
  pub behind : fields_of (drop g.next m) ≡ behind t fs
  pub inside : Inside (length m) g.value

pub first_with_lem : (m : List ℕ) (t : ℕ) (fs : List (List ℕ)) (at : ℕ) → fields_of (drop at m) ≡ fs → all is_field fs ≡ true → how_often t fs ≡ 1 → IsFirst m t fs (first_with t at fs)
unfolding all how_often first_with value_at behind
first_with_lem m t [] at e a h = absurd (omega arith)
first_with_lem m t (f ∷ fs) at e a h =
    let k = and_both (is_field f) _ a in
    go (eqb (tag_of f) t) refl h k.0 (first_with_lem m t fs (at + length f + 1) (behind_at m at f fs e).0 k.1)
  where
    go : (b : Bool) → eqb (tag_of f) t ≡ b → cond b (suc (how_often t fs)) (how_often t fs) ≡ 1 → is_field f ≡ true
        → (how_often t fs ≡ 1 → IsFirst m t fs (first_with t (at + length f + 1) fs)) → IsFirst m t (f ∷ fs) (first_with t at (f ∷ fs))
    go true q n g ih =
        let s : Standing m at = record { bytes = f; others = fs; are = e; whole = g } in
        rw q (record { value = rw q (one_value m at s); behind = rw q (behind_one m at s).0; inside = one_inside m at s })
    go false q n g ih = let r = ih n in rw q (record { value = rw q r.value; behind = rw q r.behind; inside = r.inside })
