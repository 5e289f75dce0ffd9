-- The body of a message: field 10 behind it changes nothing that the definitions say of it, and its groups are as many as field 555 says.
use mathlib.Core.Path.{◌≡◌, refl, sym, ap, ◌∙◌}
use mathlib.Core.List.{List, [], ◌∷◌, ◌++◌, map}
use mathlib.Core.Bool.{Bool, true, false, cond}
use Prim.Native.Nat.{ℕ, zero, suc, ◌*◌}
use native.Mathlib.Omega.{arith}
use lib.Dec.{eqb}
use lib.ListN.{length, take, drop, length-take, length-map, take-append-drop}
use lib.Seq.{take-append-le}
use borrow.Author.Tests.{eqb-true}
use Rattle.rules.specs.Lists.{all}
use Rattle.rules.specs.Fix.{tag_of, value_of, has_form, is_formed, how_often, value_at, behind, leg_number, group_fields, group_tags, in_sequence, legs_said}
use Rattle.rules.proofs.Tests.{and_both, and_true, passed}
use Rattle.laws.proofs.Lists.{all_joined, same_numbers_lem}

-- field 10, `l`, behind the body
module _ (l : List ℕ) (last : tag_of l ≡ 10) where
  pub formed_last : (body : List (List ℕ)) → all is_formed (body ++ (l ∷ [])) ≡ all is_formed body
  unfolding all has_form
  formed_last body = all_joined is_formed body (l ∷ []) ∙ rw last (and_true (all is_formed body))

  -- for any other tag
  module _ (t : ℕ) (other : eqb 10 t ≡ false) where
    pub often_last : (body : List (List ℕ)) → how_often t (body ++ (l ∷ [])) ≡ how_often t body
    unfolding how_often
    often_last [] = rw (last, other)
    often_last (f ∷ fs) = rw (often_last fs)

    pub value_last : (body : List (List ℕ)) → value_at t (body ++ (l ∷ [])) ≡ value_at t body
    unfolding value_at
    value_last [] = rw (last, other)
    value_last (f ∷ fs) = rw (value_last fs)

  pub behind_last : (t : ℕ) (body : List (List ℕ)) → how_often t body ≡ 1 → behind t (body ++ (l ∷ [])) ≡ behind t body ++ (l ∷ [])
  unfolding how_often behind
  behind_last t [] h = absurd (omega arith)
  behind_last t (f ∷ fs) h = go (eqb (tag_of f) t) h (behind_last t fs)
    where
      go : (b : Bool) → cond b (suc (how_often t fs)) (how_often t fs) ≡ 1 → (how_often t fs ≡ 1 → behind t (fs ++ (l ∷ [])) ≡ behind t fs ++ (l ∷ []))
          → cond b (fs ++ (l ∷ [])) (behind t (fs ++ (l ∷ []))) ≡ cond b fs (behind t fs) ++ (l ∷ [])
      go true k ih = refl
      go false k ih = ih k

-- what every field of a body passes, those of its groups pass
module _ (p : List ℕ → Bool) where
  all_behind : (t : ℕ) (fs : List (List ℕ)) → all p fs ≡ true → all p (behind t fs) ≡ true
  unfolding all behind
  all_behind t [] h = refl
  all_behind t (f ∷ fs) h = let k = and_both (p f) _ h in go (eqb (tag_of f) t) k.1 (all_behind t fs k.1)
    where
      go : (b : Bool) → all p fs ≡ true → all p (behind t fs) ≡ true → all p (cond b fs (behind t fs)) ≡ true
      go true k ih = k
      go false k ih = ih

  pub groups_all : (body : List (List ℕ)) → all p body ≡ true → all p (group_fields body) ≡ true
  groups_all body h =
      let n = 3 * leg_number body in
      let b = all_behind 555 body h in
      (and_both _ _ (sym (all_joined p (take n (behind 555 body)) (drop n (behind 555 body))) ∙ rw (take-append-drop n (behind 555 body)) b)).0

-- the value of a needed tag in a body whose values have their forms
pub value_formed : (t : ℕ) (body : List (List ℕ)) → how_often t body ≡ 1 → all is_formed body ≡ true → has_form t (value_at t body) ≡ true
unfolding all how_often value_at
value_formed t [] n h = absurd (omega arith)
value_formed t (f ∷ fs) n h = let k = and_both (is_formed f) _ h in go (eqb (tag_of f) t) refl n k.0 (λ e. value_formed t fs e k.1)
  where
    go : (b : Bool) → eqb (tag_of f) t ≡ b → cond b (suc (how_often t fs)) (how_often t fs) ≡ 1 → is_formed f ≡ true → (how_often t fs ≡ 1 → has_form t (value_at t fs) ≡ true)
        → has_form t (cond b (value_of f) (value_at t fs)) ≡ true
    go true e k g ih = rw (eqb-true (tag_of f) t e) at g
    go false e k g ih = ih k

tags_length : (n : ℕ) → length (group_tags n) ≡ 3 * n
unfolding group_tags
tags_length zero = refl
tags_length (suc n) = omega (arith, tags_length n)

-- three fields to a leg
legs_length : (n : ℕ) (fs : List (List ℕ)) → length fs ≡ 3 * n → length (legs_said fs) ≡ n
unfolding legs_said
legs_length zero [] h = refl
legs_length (suc n) [] h = absurd (omega arith)
legs_length zero (f ∷ fs) h = absurd (omega arith)
legs_length (suc n) (f ∷ []) h = absurd (omega arith)
legs_length (suc n) (f ∷ g ∷ []) h = absurd (omega arith)
legs_length (suc n) (f ∷ g ∷ k ∷ fs) h = ap suc (legs_length n fs (omega arith))

-- a body in sequence
module _ (body : List (List ℕ)) (right : in_sequence body ≡ true) where
  -- 40, 44 and 555 are there once
  pub needed : (how_often 40 body ≡ 1) × (how_often 44 body ≡ 1) × (how_often 555 body ≡ 1)
  unfolding in_sequence
  needed =
      let k = passed _ right in
      (eqb-true (how_often 40 body) 1 k.0, eqb-true (how_often 44 body) 1 k.1.0, eqb-true (how_often 555 body) 1 k.1.1.0)

  pub groups_tags : map tag_of (group_fields body) ≡ group_tags (leg_number body)
  unfolding in_sequence
  groups_tags = same_numbers_lem _ _ (passed _ right).1.1.1.0

  groups_length : length (group_fields body) ≡ 3 * leg_number body
  groups_length = sym (length-map (group_fields body) tag_of) ∙ ap length groups_tags ∙ tags_length (leg_number body)

  pub legs_said_lem : length (legs_said (group_fields body)) ≡ leg_number body
  legs_said_lem = legs_length (leg_number body) (group_fields body) groups_length

  -- so many fields stand behind 555, whatever comes next
  pub groups_last : (l : List ℕ) → take (3 * leg_number body) (behind 555 body ++ (l ∷ [])) ≡ group_fields body
  groups_last l = take-append-le (3 * leg_number body) (behind 555 body) (l ∷ []) (omega (arith, groups_length, length-take (3 * leg_number body) (behind 555 body)))
