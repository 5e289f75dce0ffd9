-- The legs of a valid order, in every sequence and as tags.
use mathlib.Core.Path.{◌≡◌, refl, sym, ap, ◌∙◌}
use mathlib.Core.List.{List, [], ◌∷◌, map}
use mathlib.Core.Bool.{Bool, true, false, not, true≢false}
use Prim.Native.Nat.{ℕ, ◌≤◌}
use lib.ListN.{length, take, get_or}
use lib.Dec.{eqb}
use borrow.Author.Tests.{eq-eqb, eqb-true}
use Rattle.rules.specs.declared.Series.{Series}
use Rattle.rules.specs.declared.Leg.{Leg}
use Rattle.rules.specs.Lists.{All, same_bool, any, some_pair}
use Rattle.rules.specs.Order.{no_leg}
use Rattle.rules.specs.Pairing.{by_strike}
use Rattle.rules.specs.Numbers.{is_same_series, is_other_root}
use Rattle.rules.specs.Valid.{InRange, IsValidLeg, AreValid}
use Rattle.rules.proofs.Tests.{or_neither}
use Rattle.laws.proofs.Sorting.{all_perm, perm_sym, some_pair_perm}
use Rattle.laws.proofs.Sequence.{by_strike_is_perm, same_series_turn, other_root_turn}
use Rattle.sorting.specs.Keys.{sort_keys, with_places, EachTwo}
use Rattle.sorting.proofs.Laws.{each_two_with, each_two_fail}
use Rattle.keys.specs.Tags.{key_of, tag_of, legs_in, ValidTags, Arranged}
use Rattle.arranging.proofs.Back.{key_tells}
use Rattle.arranging.proofs.Arranging.{arranged_rising, arranged_sizes, arranged_legs, arranged_tagged}

-- ---- another sequence

valid_sorted : (ls : List Leg) → AreValid ls → AreValid (by_strike ls)
valid_sorted ls v =
    let p = by_strike_is_perm ls in
    record {
      each = all_perm IsValidLeg (perm_sym p) v.each;
      apart = some_pair_perm is_same_series same_series_turn p ∙ v.apart;
      roots = some_pair_perm is_other_root other_root_turn p ∙ v.roots;
    }

-- ---- one root

same_root : (x y : Leg) → is_other_root x y ≡ false → y.root ≡ x.root
same_root x y h = go (eqb x.root y.root) refl h
  where
    go : (b : Bool) → eqb x.root y.root ≡ b → not b ≡ false → y.root ≡ x.root
    go true e k = sym (eqb-true x.root y.root e)
    go false e k = cc

roots_of : (x : Leg) (ls : List Leg) → any (is_other_root x) ls ≡ false → All (λ y. y.root ≡ x.root) ls
unfolding any
roots_of x [] h = tt
roots_of x (y ∷ ls) h = let k = or_neither (is_other_root x y) (any (is_other_root x) ls) h in (same_root x y k.0, roots_of x ls k.1)

abbrev pub root_of : List Leg → ℕ
root_of ls = (get_or ls 0 no_leg).root

-- the root of the first leg is that of all
pub one_root : (ls : List Leg) → some_pair is_other_root ls ≡ false → All (λ y. y.root ≡ root_of ls) ls
unfolding some_pair
one_root [] h = tt
one_root (x ∷ ls) h = (refl, roots_of x ls (or_neither (any (is_other_root x) ls) (some_pair is_other_root ls) h).0)

-- ---- keys apart

same_bool_lem : (b : Bool) → same_bool b b ≡ true
same_bool_lem true = refl
same_bool_lem false = refl

pub equal_series : (a b : Leg) → a.root ≡ b.root → a.series ≡ b.series → is_same_series a b ≡ true
equal_series a b r s =
    let x = eq-eqb a.root b.root r in
    let y = eq-eqb a.series.expiry b.series.expiry (ap (λ (u : Series). u.expiry) s) in
    let z = eq-eqb a.series.strike.0 b.series.strike.0 (ap (λ (u : Series). u.strike.0) s) in
    let w : same_bool a.series.call b.series.call ≡ true = ap (λ (c : Bool). same_bool a.series.call c) (ap (λ (u : Series). u.call) (sym s)) ∙ same_bool_lem a.series.call in
    rw (x, w, y, z)

abbrev Apart : Leg → Leg → Type 0
Apart a b = key_of false a.series ≡ key_of false b.series → ⊥

-- a valid leg of a root
abbrev Of : ℕ → Leg → Type 0
Of root x = IsValidLeg x × (x.root ≡ root)

keys_apart : (ls : List Leg) → AreValid ls → EachTwo Apart ls
keys_apart ls v = each_two_with (λ a b. is_same_series a b ≡ false) Apart (Of (root_of ls)) differ ls (each_two_fail is_same_series ls v.apart) (both ls v.each (one_root ls v.roots))
  where
    differ : (a b : Leg) → is_same_series a b ≡ false → Of (root_of ls) a → Of (root_of ls) b → Apart a b
    differ a b h p q k = true≢false (sym (equal_series a b (p.1 ∙ sym q.1) (key_tells false a.series b.series p.0.series q.0.series k)) ∙ h)

    both : (xs : List Leg) → All IsValidLeg xs → All (λ y. y.root ≡ root_of ls) xs → All (Of (root_of ls)) xs
    both [] h k = tt
    both (x ∷ xs) h k = ((h.0, k.0), both xs h.1 k.1)

-- ---- as tags

pub ranges : (ls : List Leg) → All IsValidLeg ls → All (λ x. InRange x.series) ls
ranges [] h = tt
ranges (x ∷ ls) h = (h.0.series, ranges ls h.1)

counts_within : (ls : List Leg) → All IsValidLeg ls → All (λ s. (1 ≤ s) × (s ≤ 10000)) (map (λ x. x.size) ls)
counts_within [] h = tt
counts_within (x ∷ ls) h = ((h.0.least, h.0.most), counts_within ls h.1)

-- valid legs, sorted by their tags and arranged
module _ (ls : List Leg) (v : AreValid ls) (n : ℕ) (many : length ls ≡ n) (few : n ≤ 16) (places sizes tags left : List ℕ)
    (order : places ≡ sort_keys (with_places 0 (map (tag_of false) ls)))
    (counts : take n sizes ≡ map (λ x. x.size) ls)
    (arranged : Arranged places sizes (take n tags) (take n left)) where
  short : length ls ≤ 16
  short = rw many few

  range : All (λ x. InRange x.series) ls
  range = ranges ls v.each

  apart : EachTwo Apart ls
  apart = keys_apart ls v

  pub valid_tags : length tags ≡ 16 → length left ≡ 16 → ValidTags n tags left
  valid_tags full_tags full_left =
      let s = valid_sorted ls v in
      record {
        valid = arranged_tagged false ls short range apart n many places sizes tags left order counts arranged full_tags;
        full = full_left;
        rising = arranged_rising false ls short range apart n many places sizes tags left order counts arranged;
        counts = rw (arranged_sizes false ls short range apart n many places sizes tags left order counts arranged) (counts_within (by_strike ls) s.each);
      }

  pub valid_legs : legs_in (root_of ls) false n tags left ≡ by_strike ls
  valid_legs = arranged_legs false ls short range apart n many places sizes tags left order counts arranged (root_of ls) (one_root ls v.roots)
