-- Two groups exchanged: the fields are in sequence as before, and the legs are said in another sequence. By the tags, all fields between the two groups are groups as well.
use mathlib.Core.Path.{◌≡◌, refl, sym, ap, ◌∙◌}
use mathlib.Core.List.{List, [], ◌∷◌, ◌++◌, map}
use mathlib.Core.Bool.{Bool, true, false, ◌&&◌, ◌||◌, true≢false, or-true}
use Prim.Native.Nat.{ℕ, zero, suc, ◌*◌}
use native.Mathlib.Omega.{arith}
use lib.Dec.{eqb}
use lib.ListN.{take, drop}
use Rattle.rules.specs.declared.RawLeg.{RawLeg}
use Rattle.rules.specs.Lists.{Perm, none, keep, swap, then, any, same_numbers}
use Rattle.rules.specs.Numerals.{value, numeral}
use Rattle.rules.specs.Fix.{leading_digits, tag_of, value_of, before, number_said, leg_number, group_fields, behind_groups, group_tags, is_group_tag, in_sequence, leg_said, legs_said, digits_for}
use Rattle.rules.proofs.Tests.{and_both, not_eq, passed}
use Rattle.message_theorems.specs.Groups.{Group, fields_in}
use Rattle.laws.proofs.Lists.{fails}
use Rattle.message_theorems.proofs.Laws.{is_of_group}
use Rattle.message_theorems.proofs.Exchange.{Exchanged, here, there, tags_kept, often_kept, value_kept, Parted, later, sooner, parted}

map_take : {A B : Type 0} (f : A → B) (n : ℕ) (xs : List A) → map f (take n xs) ≡ take n (map f xs)
map_take f zero xs = refl
map_take f (suc n) [] = refl
map_take f (suc n) (x ∷ xs) = ap (λ l. f x ∷ l) (map_take f n xs)

any_drop : {A B : Type 0} (p : B → Bool) (f : A → B) (n : ℕ) (xs : List A) → any (λ x. p (f x)) (drop n xs) ≡ any p (drop n (map f xs))
unfolding any
any_drop p f zero [] = refl
any_drop p f zero (x ∷ xs) = ap (λ b. p (f x) || b) (any_drop p f zero xs)
any_drop p f (suc n) [] = refl
any_drop p f (suc n) (x ∷ xs) = any_drop p f n xs

tags_taken : (n : ℕ) {fs gs : List (List ℕ)} → Exchanged fs gs → map tag_of (take n fs) ≡ map tag_of (take n gs)
tags_taken n {fs} {gs} e = map_take tag_of n fs ∙ ap (take n) (tags_kept e) ∙ sym (map_take tag_of n gs)

group_dropped : (n : ℕ) {fs gs : List (List ℕ)} → Exchanged fs gs → any is_of_group (drop n fs) ≡ any is_of_group (drop n gs)
group_dropped n {fs} {gs} e =
    any_drop is_group_tag tag_of n fs ∙ ap (λ l. any is_group_tag (drop n l)) (tags_kept e) ∙ sym (any_drop is_group_tag tag_of n gs)

-- 3 times a number, one group after the other
abbrev thrice : ℕ → ℕ
thrice zero = zero
thrice (suc n) = suc (suc (suc (thrice n)))

thrice_is : (n : ℕ) → 3 * n ≡ thrice n
thrice_is zero = refl
thrice_is (suc n) = omega (arith, thrice_is n)

-- tags that are a group's: those behind it are right as well, and it has no 600 in second or third place
rest_right : (f g d : List ℕ) {b : Bool} → eqb (tag_of f) 600 && (eqb (tag_of g) 623 && (eqb (tag_of d) 624 && b)) ≡ true → b ≡ true
rest_right f g d h = (and_both (eqb (tag_of d) 624) _ (and_both (eqb (tag_of g) 623) _ (and_both (eqb (tag_of f) 600) _ h).1).1).1

not_second : (f : List ℕ) → eqb (tag_of f) 600 && false ≡ true → ⊥
not_second f h = true≢false (sym (and_both (eqb (tag_of f) 600) _ h).1)

not_third : (f g : List ℕ) → eqb (tag_of f) 600 && (eqb (tag_of g) 623 && false) ≡ true → ⊥
not_third f g h = true≢false (sym (and_both (eqb (tag_of g) 623) _ (and_both (eqb (tag_of f) 600) _ h).1).1)

any_behind : (mid fs : List (List ℕ)) → any is_of_group fs ≡ true → any is_of_group (mid ++ fs) ≡ true
unfolding any
any_behind [] fs h = h
any_behind (f ∷ mid) fs h = rw (any_behind mid fs h) (or-true (is_of_group f))

abbrev leg_in : Group → RawLeg
leg_in g = leg_said g.symbol g.ratio g.side

-- behind one group the fields `mid`, then the other group: by the tags whole groups are between, and their legs stay
legs_apart : (n : ℕ) (x y : Group) (mid fs : List (List ℕ))
    → same_numbers (map tag_of (take (thrice n) (mid ++ (fields_in y ++ fs)))) (group_tags n) ≡ true → any is_of_group (drop (thrice n) (mid ++ (fields_in y ++ fs))) ≡ false
    → Perm (leg_in x ∷ legs_said (take (thrice n) (mid ++ (fields_in y ++ fs)))) (leg_in y ∷ legs_said (take (thrice n) (mid ++ (fields_in x ++ fs))))
unfolding same_numbers group_tags any legs_said tag_of value_of leading_digits value numeral digits_for
legs_apart zero x y mid fs h k = absurd (true≢false (sym (any_behind mid _ refl) ∙ k))
legs_apart (suc n) x y [] fs h k = swap _ _ _
legs_apart (suc n) x y (f ∷ []) fs h k = absurd (not_second f h)
legs_apart (suc n) x y (f ∷ g ∷ []) fs h k = absurd (not_third f g h)
legs_apart (suc n) x y (f ∷ g ∷ d ∷ mid) fs h k =
    then (swap _ _ _) (then (keep _ (legs_apart n x y mid fs (rest_right f g d h) k)) (swap _ _ _))

-- the exchange is of whole groups among the groups, by the tags, and none of them stands behind
legs_turn : (n : ℕ) {fs gs : List (List ℕ)} → Exchanged fs gs
    → same_numbers (map tag_of (take (thrice n) fs)) (group_tags n) ≡ true → any is_of_group (drop (thrice n) fs) ≡ false
    → Perm (legs_said (take (thrice n) fs)) (legs_said (take (thrice n) gs))
unfolding same_numbers group_tags any legs_said tag_of value_of leading_digits value numeral digits_for
legs_turn zero e h k = none
legs_turn (suc n) (here x y mid fs) h k = legs_apart n x y mid fs h k
legs_turn (suc n) (there f (here x y mid fs)) h k = absurd (not_second f h)
legs_turn (suc n) (there f (there g (here x y mid fs))) h k = absurd (not_third f g h)
legs_turn (suc n) (there f (there g (there d e))) h k = keep _ (legs_turn n e (rest_right f g d h) k)

legs_kept : (n : ℕ) {fs gs : List (List ℕ)} → Exchanged fs gs
    → same_numbers (map tag_of (take (3 * n) fs)) (group_tags n) ≡ true → any is_of_group (drop (3 * n) fs) ≡ false
    → Perm (legs_said (take (3 * n) fs)) (legs_said (take (3 * n) gs))
legs_kept n e = rw (thrice_is n) (legs_turn n e)

-- what is in sequence in one is in sequence in both, and then says the same legs
pub record Sequences (fs gs : List (List ℕ)) : Type 0 where
  pub same : in_sequence fs ≡ in_sequence gs
  pub legs : in_sequence fs ≡ true → Perm (legs_said (group_fields fs)) (legs_said (group_fields gs))

no_sequence : (fs : List (List ℕ)) → any is_of_group (before 555 fs) ≡ true → in_sequence fs ≡ false
unfolding in_sequence
no_sequence fs h = rw h (fails (_ ∷ _ ∷ _ ∷ _ ∷ []) (_ ∷ []))

pub sequences : {fs gs : List (List ℕ)} → Exchanged fs gs → Sequences fs gs
unfolding in_sequence
sequences {fs} {gs} e = go (parted 555 refl refl refl e)
  where
    n : leg_number fs ≡ leg_number gs
    n = ap number_said (value_kept 555 refl refl refl e)

    go : Parted 555 fs gs → Sequences fs gs
    go (later p q) =
        record { same = no_sequence fs p ∙ sym (no_sequence gs q); legs = λ h. absurd (true≢false (sym h ∙ no_sequence fs p)) }
    go (sooner p q) =
        record {
          same =
              rw (
                often_kept 40 e,
                often_kept 44 e,
                often_kept 555 e,
                n,
                tags_taken (3 * leg_number gs) q,
                p,
                group_dropped (3 * leg_number gs) q,
              );
          legs = λ h.
              let (a, (b, (c, (d, (f, (g, x)))))) = passed _ h in
              rw (← n) (legs_kept (leg_number fs) q d (not_eq (any is_of_group (behind_groups fs)) g));
        }
