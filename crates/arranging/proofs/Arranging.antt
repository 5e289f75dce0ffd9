-- Legs whose tags were sorted with their places are in the walk's sequence.
use mathlib.Core.Path.{◌≡◌, refl, sym, ap, ap₂, ◌∙◌}
use mathlib.Core.List.{List, [], ◌∷◌, ◌++◌, map}
use mathlib.Core.Logic.{◌⊎◌, inl, inr}
use mathlib.Core.Bool.{Bool, true, false, cond}
use Prim.Native.Nat.{ℕ, suc, ◌+◌, ◌-◌, ◌*◌, ◌/◌, ◌%◌, ◌≤◌, ◌<◌}
use native.Mathlib.Omega.{arith}
use lib.ListN.{length, take, drop, get_or, length-append, length-map, get_or-map, take-append-drop}
use lib.Seq.{get_or-take, take_at, length-take-le}
use lib.Dec.{ltb}
use borrow.Author.Tests.{ltb-true, ltb-false, lt-ltb, le-ltb}
use Rattle.rules.specs.declared.Series.{Series}
use Rattle.rules.specs.declared.Leg.{Leg}
use Rattle.rules.specs.Lists.{Perm, All, lex, sort}
use Rattle.rules.specs.Order.{no_leg}
use Rattle.rules.specs.Pairing.{strike_key, expiry_key, whole_leg, by_strike, by_expiry}
use Rattle.rules.specs.Valid.{InRange}
use Rattle.laws.proofs.Sorting.{all_perm, all_map, perm_sym, sort_is_perm, lex_below, lex_level}
use Rattle.sorting.specs.Keys.{sort_keys, with_places, EachTwo}
use Rattle.sorting.proofs.Laws.{sort_same, sort_ascends, sort_places, places_say, each_two_mapped, each_two_perm, each_two_both, each_two_with}
use Rattle.keys.specs.Tags.{packed, key_of, tag_of, leg_at, legs_from, legs_in, sequenced, Tagged, Rising, Arranged}
use Rattle.keys.proofs.Keys.{small_digit}
use Rattle.arranging.proofs.Zip.{zip_take}
use Rattle.arranging.proofs.Back.{tag_half, tag_small, legs_back}

-- ---- a packed number is in the order of its three numbers

abbrev Three : ℕ → ℕ → Type 0
Three x y = (x < y) ⊎ ((y < x) ⊎ (x ≡ y))

three : (x y : ℕ) → Three x y
three x y = go (ltb x y) (ltb y x) refl refl
  where
    go : (p q : Bool) → ltb x y ≡ p → ltb y x ≡ q → Three x y
    go true q e f = inl (ltb-true x y e)
    go false true e f = inr (inl (ltb-true y x f))
    go false false e f = let l = ltb-false x y e in let g = ltb-false y x f in inr (inr (omega arith))

lex_above : (x y : ℕ) (xs ys : List ℕ) → y < x → lex (x ∷ xs) (y ∷ ys) ≡ false
unfolding lex
lex_above x y xs ys h = rw (le-ltb x y (omega arith), lt-ltb y x h)

module _ (a b c d e f : ℕ) (xs ys : List ℕ) (hb : b ≤ 99999999) (hc : c ≤ 99999999) (he : e ≤ 99999999) (hf : f ≤ 99999999) (apart : packed a b c ≡ packed d e f → ⊥) where
  abbrev Decides : List ℕ → List ℕ → Type 0
  Decides us vs = lex us vs ≡ ltb (packed a b c) (packed d e f)

  last : a ≡ d → b ≡ e → Three c f → Decides (c ∷ xs) (f ∷ ys)
  last p q (inl l) = lex_below c f xs ys l ∙ sym (lt-ltb (packed a b c) (packed d e f) (omega arith))
  last p q (inr (inl l)) = lex_above c f xs ys l ∙ sym (le-ltb (packed a b c) (packed d e f) (omega arith))
  last p q (inr (inr r)) = absurd (apart (omega arith))

  middle : a ≡ d → Three b e → Decides (b ∷ c ∷ xs) (e ∷ f ∷ ys)
  middle p (inl l) = lex_below b e (c ∷ xs) (f ∷ ys) l ∙ sym (lt-ltb (packed a b c) (packed d e f) (omega arith))
  middle p (inr (inl l)) = lex_above b e (c ∷ xs) (f ∷ ys) l ∙ sym (le-ltb (packed a b c) (packed d e f) (omega arith))
  middle p (inr (inr q)) = lex_level b e (c ∷ xs) (f ∷ ys) q ∙ last p q (three c f)

  first : Three a d → Decides (a ∷ b ∷ c ∷ xs) (d ∷ e ∷ f ∷ ys)
  first (inl l) = lex_below a d (b ∷ c ∷ xs) (e ∷ f ∷ ys) l ∙ sym (lt-ltb (packed a b c) (packed d e f) (omega arith))
  first (inr (inl l)) = lex_above a d (b ∷ c ∷ xs) (e ∷ f ∷ ys) l ∙ sym (le-ltb (packed a b c) (packed d e f) (omega arith))
  first (inr (inr p)) = lex_level a d (b ∷ c ∷ xs) (e ∷ f ∷ ys) p ∙ middle p (three b e)

  packed_decides : Decides (a ∷ b ∷ c ∷ xs) (d ∷ e ∷ f ∷ ys)
  packed_decides = first (three a d)

-- ---- the walk's sequence by the tags

abbrev keyed : Bool → Leg → List ℕ
keyed second l = cond second (expiry_key l.series) (strike_key l.series) ++ whole_leg l

sorted_by : (second : Bool) (ls : List Leg) → sequenced second ls ≡ sort (keyed second) ls
unfolding by_strike by_expiry
sorted_by true ls = refl
sorted_by false ls = refl

key_decides : (second : Bool) (x y : Leg) → InRange x.series → InRange y.series → (key_of second x.series ≡ key_of second y.series → ⊥)
    → lex (keyed second x) (keyed second y) ≡ ltb (key_of second x.series) (key_of second y.series)
key_decides true x y r q d = packed_decides _ _ _ _ _ _ (whole_leg x) (whole_leg y) r.strike r.expiry q.strike q.expiry d
key_decides false x y r q d = packed_decides _ _ _ _ _ _ (whole_leg x) (whole_leg y) r.expiry (low x.series r x.series.call) q.expiry (low y.series q y.series.call) d
  where
    low : (s : Series) → InRange s → (c : Bool) → cond c (99999999 - s.strike.0) s.strike.0 ≤ 99999999
    low s h true = omega arith
    low s h false = h.strike

-- doubled, and with the side, keys are as far apart
doubled : (k l d e : ℕ) → d ≤ 1 → e ≤ 1 → (k ≡ l → ⊥) → ltb k l ≡ ltb (k * 2 + d) (l * 2 + e)
doubled k l d e h j n = go (three k l)
  where
    go : Three k l → ltb k l ≡ ltb (k * 2 + d) (l * 2 + e)
    go (inl p) = lt-ltb k l p ∙ sym (lt-ltb (k * 2 + d) (l * 2 + e) (omega arith))
    go (inr (inl p)) = le-ltb k l (omega arith) ∙ sym (le-ltb (k * 2 + d) (l * 2 + e) (omega arith))
    go (inr (inr p)) = absurd (n p)

-- every tagged number's place is one of the list's
places_small : (i n : ℕ) (ks : List ℕ) → i + length ks ≤ n → n ≤ 16 → All (λ t. t % 16 < n) (with_places i ks)
unfolding with_places
places_small i n [] h f = tt
places_small i n (k ∷ ks) h f = (omega arith, places_small (suc i) n ks (omega arith) f)

-- sorted, they are too; and sixteen elements have every place
pub places_within : (n : ℕ) (ks : List ℕ) → length ks ≤ n → n ≤ 16 → All (λ p. p % 16 < n) (sort_keys (with_places 0 ks))
places_within n ks h f = all_perm (λ p. p % 16 < n) (perm_sym (sort_same (with_places 0 ks))) (places_small 0 n ks (omega arith) f)

pub sixteen_places : (n : ℕ) (ps : List ℕ) → 16 ≤ n → All (λ p. p % 16 < n) ps
sixteen_places n [] h = tt
sixteen_places n (p ∷ ps) h = (omega arith, sixteen_places n ps h)

module _ (second : Bool) (ls : List Leg) (few : length ls ≤ 16) (range : All (λ x. InRange x.series) ls)
    (apart : EachTwo (λ x y. key_of second x.series ≡ key_of second y.series → ⊥) ls) where
  abbrev numbers : List ℕ
  numbers = with_places 0 (map (tag_of second) ls)

  abbrev at : ℕ → Leg
  at p = get_or ls (p % 16) no_leg

  by_tags : sequenced second ls ≡ map (λ p. get_or ls (p % 16) no_leg) (sort_keys numbers)
  by_tags =
      sorted_by second ls
      ∙ sort_places no_leg (tag_of second) ls few (keyed second)
      (each_two_with _ _ (λ x. InRange x.series)
      (λ x y d r q. (
        (λ e. d (omega (arith, tag_half second x, tag_half second y, e))),
        key_decides second x y r q d ∙ doubled _ _ _ _ (small_digit x.bought) (small_digit y.bought) d,
      ))
      ls apart range)

  perm : Perm (sequenced second ls) ls
  perm = rw (sorted_by second ls) (sort_is_perm (keyed second) ls)

  range_sequenced : All (λ x. InRange x.series) (sequenced second ls)
  range_sequenced = all_perm (λ x. InRange x.series) (perm_sym perm) range

  roots_sequenced : (root : ℕ) → All (λ x. x.root ≡ root) ls → All (λ x. x.root ≡ root) (sequenced second ls)
  roots_sequenced root h = all_perm (λ x. x.root ≡ root) (perm_sym perm) h

  -- what a place says: one of the legs, and that leg's tag
  abbrev Says : ℕ → Type 0
  Says p = (p % 16 < length ls) × (tag_of second (at p) ≡ p / 16)

  says : All Says (sort_keys numbers)
  says = all_perm Says (perm_sym (sort_same numbers)) (both numbers (places_small 0 (length ls) (map (tag_of second) ls) (omega (arith, length-map ls (tag_of second))) few) (places_say no_leg (tag_of second) ls few))
    where
      both : (ps : List ℕ) → All (λ p. p % 16 < length ls) ps → All (λ p. tag_of second (at p) ≡ p / 16) ps → All Says ps
      both [] h k = tt
      both (p ∷ ps) h k = ((h.0, k.0), both ps h.1 k.1)

  module _ (n : ℕ) (many : length ls ≡ n) (places sizes tags left : List ℕ)
      (order : places ≡ sort_keys numbers)
      (counts : take n sizes ≡ map (λ x. x.size) ls)
      (arranged : Arranged places sizes (take n tags) (take n left)) where
    pub arranged_tags : take n tags ≡ map (tag_of second) (sequenced second ls)
    arranged_tags = arranged.each_tag ∙ ap (map (λ p. p / 16)) order ∙ each (sort_keys numbers) says ∙ ap (map (tag_of second)) (sym by_tags)
      where
        each : (ps : List ℕ) → All Says ps → map (λ p. p / 16) ps ≡ map (tag_of second) (map at ps)
        each [] h = refl
        each (p ∷ ps) h = ap₂ ◌∷◌ (sym h.0.1) (each ps h.1)

    -- sorted numbers ascend, and no two keys are the same
    pub arranged_rising : Rising n tags
    arranged_rising = each_two_both ◌≤◌ (λ a b. a / 2 ≡ b / 2 → ⊥) _ (λ a b h d. below a b h d) (take n tags) ascending differ
      where
        below : (a b : ℕ) → a ≤ b → (a / 2 ≡ b / 2 → ⊥) → a / 2 < b / 2
        below a b h d = go (three (a / 2) (b / 2))
          where
            go : Three (a / 2) (b / 2) → a / 2 < b / 2
            go (inl l) = l
            go (inr (inl l)) = absurd (omega arith)
            go (inr (inr e)) = absurd (d e)

        ascending : EachTwo ◌≤◌ (take n tags)
        ascending =
            rw (arranged.each_tag ∙ ap (map (λ p. p / 16)) order)
            (each_two_mapped ◌≤◌ (λ p. p / 16) (sort_keys numbers) (each_two_both ◌≤◌ ◌≤◌ (λ p q. p / 16 ≤ q / 16) (λ p q h k. omega arith) (sort_keys numbers) (sort_ascends numbers) (sort_ascends numbers)))

        differ : EachTwo (λ a b. a / 2 ≡ b / 2 → ⊥) (take n tags)
        differ =
            rw arranged_tags
            (each_two_mapped (λ a b. a / 2 ≡ b / 2 → ⊥) (tag_of second) (sequenced second ls)
            (each_two_perm (λ x y. tag_of second x / 2 ≡ tag_of second y / 2 → ⊥) (λ x y d e. d (sym e)) (perm_sym perm)
            (each_two_with (λ x y. key_of second x.series ≡ key_of second y.series → ⊥) _ (λ x. InRange x.series) (λ x y d r q e. d (sym (tag_half second x) ∙ e ∙ tag_half second y)) ls apart range)))

    size_at_lem : (i : ℕ) → i < length ls → get_or sizes i 0 ≡ (get_or ls i no_leg).size
    size_at_lem i h = sym (get_or-take n sizes i 0 (omega arith)) ∙ ap (λ (ns : List ℕ). get_or ns i 0) counts ∙ get_or-map (λ x. x.size) ls i no_leg

    pub arranged_sizes : take n left ≡ map (λ x. x.size) (sequenced second ls)
    arranged_sizes = arranged.each_left ∙ ap (map (λ p. get_or sizes (p % 16) 0)) order ∙ each (sort_keys numbers) says ∙ ap (map (λ x. x.size)) (sym by_tags)
      where
        each : (ps : List ℕ) → All Says ps → map (λ p. get_or sizes (p % 16) 0) ps ≡ map (λ x. x.size) (map at ps)
        each [] h = refl
        each (p ∷ ps) h = ap₂ ◌∷◌ (size_at_lem (p % 16) h.0.0) (each ps h.1)

    -- tags and contracts, arranged by their places, are the legs in the walk's sequence
    pub arranged_legs : (root : ℕ) → All (λ x. x.root ≡ root) ls → legs_in root second n tags left ≡ sequenced second ls
    arranged_legs root one =
        zip_take (leg_at root second) n tags left
        ∙ ap₂ (legs_from root second) arranged_tags arranged_sizes
        ∙ legs_back root second (sequenced second ls) range_sequenced (roots_sequenced root one)

    pub arranged_small : All (λ t. t < 40000000000000000) (take n tags)
    arranged_small = rw arranged_tags (all_map (λ t. t < 40000000000000000) (tag_of second) (sequenced second ls) (each (sequenced second ls) range_sequenced))
      where
        each : (xs : List Leg) → All (λ x. InRange x.series) xs → All (λ x. tag_of second x < 40000000000000000) xs
        each [] h = tt
        each (x ∷ xs) h = (tag_small second x h.0, each xs h.1)

    pub arranged_tagged : length tags ≡ 16 → Tagged n tags
    arranged_tagged full = record { few = rw many at few; full = full; small = arranged_small }

-- ---- the first of an array are arranged, and put back

-- as many are put back as there were
pub put_back_length : (n : ℕ) (ts xs : List ℕ) → length ts ≡ length (take n xs) → length (ts ++ drop n xs) ≡ length xs
put_back_length n ts xs e = omega (arith, length-append ts (drop n xs), length-append (take n xs) (drop n xs), ap length (take-append-drop n xs))

-- `ts` and `ss` are what arranging left of the first of `xs` and `ws`
pub arranged_front : (n : ℕ) (xs sizes ts ss ws : List ℕ) → n ≤ length xs → n ≤ length ws → length ts ≡ length (take n xs) → length ss ≡ length (take n ws) → Arranged (take n xs) sizes ts ss
    → let tags = ts ++ drop n xs in
    let left = ss ++ drop n ws in Arranged (take n xs) sizes (take n tags) (take n left) × (length tags ≡ length xs) × (length left ≡ length ws)
arranged_front n xs sizes ts ss ws h k f g a =
    let tags = take_at ts (drop n xs) n (f ∙ length-take-le n xs h) in
    let left = take_at ss (drop n ws) n (g ∙ length-take-le n ws k) in
    (record { each_tag = tags ∙ a.each_tag; each_left = left ∙ a.each_left }, put_back_length n ts xs f, put_back_length n ss ws g)
