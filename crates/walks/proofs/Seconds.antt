-- What the first walk left, sorted for the second walk, is in the second walk's sequence.
use mathlib.Core.Path.{◌≡◌, refl, sym, ap, ap₂, ◌∙◌}
use mathlib.Core.List.{List, [], ◌∷◌, map, zip_with}
use mathlib.Core.Bool.{Bool, true, false, cond}
use Prim.Native.Nat.{ℕ, ◌-◌, ◌/◌, ◌%◌, ◌≤◌, ◌<◌}
use native.Mathlib.Omega.{arith}
use lib.ListN.{length, take}
use lib.Dec.{eqb}
use borrow.Author.Tests.{eqb-true, eqb-false}
use Rattle.std.proofs.lemmas.List.{take_all}
use Rattle.rules.specs.declared.Leg.{Leg}
use Rattle.rules.specs.Lists.{All}
use Rattle.rules.specs.Pairing.{digit, one_strike, by_expiry, walk}
use Rattle.rules.specs.Valid.{InRange}
use Rattle.laws.proofs.Sorting.{all_perm, perm_sym, map_perm, sort_is_perm}
use Rattle.sorting.specs.Keys.{sort_keys, with_places, EachTwo}
use Rattle.sorting.proofs.Laws.{each_two_map, each_two_both, each_two_with}
use Rattle.keys.specs.Tags.{packed, key_of, series_at, tag_of, leg_at, legs_from, second_tag, Arranged}
use Rattle.keys.proofs.Keys.{side_says}
use Rattle.arranging.proofs.Zip.{zip_length, zip_take}
use Rattle.arranging.proofs.Back.{key_tells, tag_half}
use Rattle.arranging.proofs.Arranging.{arranged_legs, arranged_small, arranged_rising, arranged_sizes}
use Rattle.tagged.specs.declared.PairTally.{PairTally}
use Rattle.tagged.specs.Tags.{InSequence, Walks}
use Rattle.loners.specs.Tallies.{all_alone, alone_in}
use Rattle.loners.proofs.Alone.{alone_legs}
use Rattle.walks.specs.Both.{tallied}

-- a key says a series in range, and the series says the key
key_says : (k : ℕ) → k < 20000000000000000 → InRange (series_at false k) × (key_of false (series_at false k) ≡ k)
unfolding series_at
key_says k h = let s = go (eqb (k / 10000000000000000) 1) refl in (record { expiry = omega arith; strike = s.0 }, s.1)
  where
    go : (c : Bool) → eqb (k / 10000000000000000) 1 ≡ c → let strike = cond c (99999999 - k % 100000000) (k % 100000000) in
        (strike ≤ 99999999) × (packed (digit c) (k / 100000000 % 100000000) (cond c (99999999 - strike) strike) ≡ k)
    go true e = let f = eqb-true (k / 10000000000000000) 1 e in (omega arith, omega arith)
    go false e = let f = eqb-false (k / 10000000000000000) 1 e in (omega arith, omega arith)

-- the legs of tags and counts, and what they say
record Legs (root : ℕ) (ts ns : List ℕ) (ls : List Leg) : Type 0 where
  firsts : ts ≡ map (tag_of false) ls
  seconds : map second_tag ts ≡ map (tag_of true) ls
  sizes : ns ≡ map (λ x. x.size) ls
  ranges : All (λ x. InRange x.series) ls
  roots : All (λ x. x.root ≡ root) ls

legs_say : (root : ℕ) (ts ns : List ℕ) → length ts ≡ length ns → All (λ t. t < 40000000000000000) ts → Legs root ts ns (legs_from root false ts ns)
unfolding zip_with
legs_say root [] [] h k = record { firsts = refl; seconds = refl; sizes = refl; ranges = tt; roots = tt }
legs_say root [] (n ∷ ns) h k = absurd (omega arith)
legs_say root (t ∷ ts) [] h k = absurd (omega arith)
legs_say root (t ∷ ts) (n ∷ ns) h k =
    let r = legs_say root ts ns (omega arith) k.1 in
    let s = key_says (t / 2) (omega arith) in
    let e : t ≡ tag_of false (leg_at root false t n) = omega (arith, s.1, side_says t) in
    record {
      firsts = ap₂ ◌∷◌ e r.firsts;
      seconds = ap (λ (ms : List ℕ). second_tag t ∷ ms) r.seconds;
      sizes = ap (λ (ms : List ℕ). n ∷ ms) r.sizes;
      ranges = (s.0, r.ranges);
      roots = (refl, r.roots);
    }

-- `sorted` are the places of `tags` in the second walk's sequence: arranged, with contracts `left` of which `sizes` are the first, they are `seconds` and `rest`
module _ {tags left sorted sizes seconds rest : List ℕ} (q : InSequence tags left)
    (order : sorted ≡ sort_keys (with_places 0 (map second_tag tags)))
    (counts_are : take (length tags) sizes ≡ left)
    (arranged : Arranged sorted sizes seconds rest)
    (as_many : length seconds ≡ length tags)
    (as_many_left : length rest ≡ length tags)
    (root : ℕ) where
  apart : EachTwo (λ a b. a / 2 ≡ b / 2 → ⊥) tags
  apart = each_two_both (λ a b. a / 2 < b / 2) (λ a b. a / 2 < b / 2) _ (λ a b h k e. absurd (omega arith)) tags q.rising q.rising

  abbrev ls : List Leg
  ls = legs_from root false tags left

  abbrev n : ℕ
  n = length tags

  many : length ls ≡ n
  many = zip_length (leg_at root false) tags left (sym q.long)

  short : length ls ≤ 16
  short = omega (arith, many, q.few)

  say : Legs root tags left ls
  say = legs_say root tags left (sym q.long) q.small

  -- keys that differ in the first walk differ in the second
  keys_apart : EachTwo (λ x y. key_of true x.series ≡ key_of true y.series → ⊥) ls
  keys_apart = each_two_with (λ x y. tag_of false x / 2 ≡ tag_of false y / 2 → ⊥) _ (λ x. InRange x.series) differ ls (each_two_map _ (tag_of false) ls (rw say.firsts at apart)) say.ranges
    where
      differ : (x y : Leg) → (tag_of false x / 2 ≡ tag_of false y / 2 → ⊥) → InRange x.series → InRange y.series → key_of true x.series ≡ key_of true y.series → ⊥
      differ x y d r q e = d (tag_half false x ∙ ap (key_of false) (key_tells true x.series y.series r q e) ∙ sym (tag_half false y))

  numbers : sorted ≡ sort_keys (with_places 0 (map (tag_of true) ls))
  numbers = order ∙ ap (λ (ks : List ℕ). sort_keys (with_places 0 ks)) say.seconds

  sizes_say : take n sizes ≡ map (λ x. x.size) ls
  sizes_say = counts_are ∙ say.sizes

  all_seconds : take n seconds ≡ seconds
  all_seconds = take_all n seconds (omega (arith, as_many))

  all_rest : take n rest ≡ rest
  all_rest = take_all n rest (omega (arith, as_many_left))

  firsts : Arranged sorted sizes (take n seconds) (take n rest)
  firsts = rw (all_seconds, all_rest) arranged

  counted : All (λ s. s ≤ 10000) (map (λ x. x.size) (by_expiry ls))
  unfolding by_expiry
  counted = all_perm (λ s. s ≤ 10000) (perm_sym (map_perm (λ x. x.size) (sort_is_perm _ ls))) (rw say.sizes at q.counts)

  pub seconds_sequence : InSequence seconds rest
  seconds_sequence =
      record {
        few = omega (arith, as_many, q.few);
        long = as_many_left ∙ sym as_many;
        small = rw all_seconds at (arranged_small true ls short say.ranges keys_apart n many sorted sizes seconds rest numbers sizes_say firsts);
        rising = rw all_seconds at (arranged_rising true ls short say.ranges keys_apart n many sorted sizes seconds rest numbers sizes_say firsts);
        counts = rw (sym all_rest ∙ arranged_sizes true ls short say.ranges keys_apart n many sorted sizes seconds rest numbers sizes_say firsts) counted;
      }

  in_sequence_lem : legs_from root true seconds rest ≡ by_expiry ls
  in_sequence_lem =
      sym (ap₂ (legs_from root true) all_seconds all_rest)
      ∙ sym (zip_take (leg_at root true) n seconds rest)
      ∙ arranged_legs true ls short say.ranges keys_apart n many sorted sizes seconds rest numbers sizes_say firsts root say.roots

  -- the second walk and its loners
  pub second_tallied : {after : List ℕ} {b r : PairTally} → Walks seconds rest after b → r ≡ alone_in b seconds after → r ≡ tallied (walk one_strike (by_expiry ls))
  second_tallied {after} {b} w e =
      e
      ∙ alone_legs root true b seconds after
      ∙ ap₂ all_alone (w.tally root true) (w.legs root true)
      ∙ ap (λ (xs : List Leg). tallied (walk one_strike xs)) in_sequence_lem
