-- Two legs of one series, as two places of one key: sorted, neighbours; and where roots differ, any two.
use mathlib.Core.Path.{◌≡◌, refl, sym, ap, ap₂, ◌∙◌}
use mathlib.Core.List.{List, [], ◌∷◌, map, zip_with}
use mathlib.Core.Bool.{Bool, true, false, ◌&&◌, ◌||◌}
use Prim.Native.Nat.{ℕ, suc, ◌+◌, ◌≤◌, ◌<◌}
use native.Mathlib.Omega.{arith}
use native.Mathlib.Numerals.{add-one}
use lib.ListN.{length, take, drop, get_or, drop_of_length-le}
use lib.Seq.{drop-cons, take_all, take-take, length-take-le}
use Rattle.std.specs.List.{list_any, zip}
use lib.Dec.{eqb}
use borrow.Author.Tests.{eqb-true, eqb-false, eq-eqb, ne_eqb}
use Rattle.rules.specs.declared.Leg.{Leg}
use Rattle.rules.specs.Lists.{All, any, some_pair}
use Rattle.rules.specs.Numbers.{is_same_series, is_other_root}
use Rattle.rules.specs.Valid.{InRange}
use Rattle.rules.proofs.Tests.{and_true, and_both, and_of, same_test, same_eq}
use Rattle.laws.proofs.Sorting.{some_pair_perm, map_perm}
use Rattle.laws.proofs.Sequence.{eqb_turn}
use Rattle.sorting.specs.Keys.{sort_keys, with_places, EachTwo}
use Rattle.sorting.proofs.Laws.{sort_same, sort_ascends}
use Rattle.keys.specs.Tags.{key_of, tag_of, place_of, key_in, Placed}
use Rattle.arranging.proofs.Back.{key_tells, tag_half}
use Rattle.arranging.proofs.Valid.{root_of, one_root, equal_series}
use Rattle.arranging.proofs.Zip.{zip_length}
use Rattle.series_refusals.specs.Twice.{is_one_key, some_next, with_root, keys_of, is_same_key, SortedTwice}

-- ---- neighbours

-- where a place and the next are not of one key, neither is it with any later one
apart : (p q : ℕ) (ps : List ℕ) → p ≤ q → is_one_key p q ≡ false → All (λ z. q ≤ z) ps → any (eqb (key_in p)) (map key_in ps) ≡ false
unfolding any
apart p q [] l e h = refl
apart p q (z ∷ zs) l e h =
    let d = eqb-false (key_in p) (key_in q) e in
    ap₂ ◌||◌ (ne_eqb (key_in p) (key_in z) (λ k. d (omega (arith, l, h.0, k)))) (apart p q zs l e h.1)

-- of places that ascend, two are of one key where two neighbours are
some_next_lem : (ps : List ℕ) → EachTwo ◌≤◌ ps → some_next ps ≡ some_pair eqb (map key_in ps)
unfolding some_pair some_next any
some_next_lem [] h = refl
some_next_lem (p ∷ []) h = refl
some_next_lem (p ∷ q ∷ ps) h = go (is_one_key p q) _ (λ e. apart p q ps h.0.0 e h.1.0) (some_next_lem (q ∷ ps) h.1)
  where
    go : (b later : Bool) {next two : Bool} → (b ≡ false → later ≡ false) → next ≡ two → b || next ≡ (b || later) || two
    go true later f e = refl
    go false later f e = rw (f refl) e

-- sorted, neighbours tell what any two do
sorted_next : (ps : List ℕ) → some_next (sort_keys ps) ≡ some_pair eqb (map key_in ps)
sorted_next ps = some_next_lem (sort_keys ps) (sort_ascends ps) ∙ some_pair_perm eqb eqb_turn (map_perm key_in (sort_same ps))

-- the places and those behind them, side by side
pub next_beside : (ps : List ℕ) → list_any (λ p. eqb (key_in p.0) (key_in p.1)) (zip ps (drop 1 ps)) ≡ some_next ps
unfolding some_next
next_beside [] = refl
next_beside (p ∷ []) = refl
next_beside (p ∷ q ∷ ps) = ap (λ (b : Bool). is_one_key p q || b) (next_beside (q ∷ ps))

-- ---- any two elements

-- a test of what each element is mapped to, and a test of the elements, that agree on any two
same_pairs : {A B : Type 0} (k : A → B) (f : B → B → Bool) (g : A → A → Bool) (P : A → Type 0) → ((a b : A) → P a → P b → f (k a) (k b) ≡ g a b)
    → (xs : List A) → All P xs → some_pair f (map k xs) ≡ some_pair g xs
unfolding some_pair any
same_pairs k f g P e [] h = refl
same_pairs {A} k f g P e (x ∷ xs) h = ap₂ ◌||◌ (go xs h.1) (same_pairs k f g P e xs h.1)
  where
    go : (ys : List A) → All P ys → any (f (k x)) (map k ys) ≡ any (g x) ys
    go [] l = refl
    go (y ∷ ys) l = ap₂ ◌||◌ (e x y h.0 l.0) (go ys l.1)

-- ---- keys with their roots

pub again_beside : (k : ℕ × ℕ) (ps rs : List ℕ) → list_any (λ p. eqb k.0 (key_in p.0) && eqb k.1 p.1) (zip ps rs) ≡ any (is_same_key k) (keys_of ps rs)
unfolding any zip_with
again_beside k [] rs = refl
again_beside k (p ∷ ps) [] = refl
again_beside k (p ∷ ps) (r ∷ rs) = ap (λ (b : Bool). is_same_key k (with_root p r) || b) (again_beside k ps rs)

module _ (ps rs : List ℕ) (beside : length rs ≡ length ps) where
  -- there are as many keys as places
  pub keys_fit : (n : ℕ) → n ≤ length ps → n ≤ length (keys_of ps rs)
  keys_fit n h = omega (arith, zip_length with_root ps rs (sym beside))

  -- whether two from `i` on have one key and one root
  abbrev pub two_from : ℕ → Bool
  two_from i = some_pair is_same_key (keys_of (drop i ps) (drop i rs))

  turn : (i : ℕ) → i < length ps → two_from i ≡ any (is_same_key (with_root (get_or ps i 0) (get_or rs i 0))) (keys_of (drop (i + 1) ps) (drop (i + 1) rs)) || two_from (i + 1)
  unfolding some_pair zip_with
  turn i h = rw (add-one, drop-cons ps i 0 h, drop-cons rs i 0 (omega arith)) refl

  pub two_found : (i : ℕ) → i < length ps → any (is_same_key (with_root (get_or ps i 0) (get_or rs i 0))) (keys_of (drop (i + 1) ps) (drop (i + 1) rs)) ≡ true → true ≡ two_from i
  two_found i h e = sym (turn i h ∙ ap (λ (b : Bool). b || two_from (i + 1)) e)

  pub two_passed : (i : ℕ) → i < length ps → any (is_same_key (with_root (get_or ps i 0) (get_or rs i 0))) (keys_of (drop (i + 1) ps) (drop (i + 1) rs)) ≡ false → two_from (i + 1) ≡ two_from i
  two_passed i h e = sym (turn i h ∙ ap (λ (b : Bool). b || two_from (i + 1)) e)

  pub two_none : (i : ℕ) → length ps ≤ i → false ≡ two_from i
  unfolding some_pair zip_with
  two_none i h = sym (ap (λ (xs : List ℕ). some_pair is_same_key (keys_of xs (drop i rs))) (drop_of_length-le ps {i = i} h))

-- ---- the legs that the places say

abbrev key_of_leg : Leg → ℕ
key_of_leg l = key_of false l.series

abbrev rooted_key : Leg → ℕ × ℕ
rooted_key l = (key_of_leg l, l.root)

place_key : (l : Leg) (i : ℕ) → i < 16 → key_in (place_of (tag_of false l) i) ≡ key_of_leg l
place_key l i h = omega (arith, tag_half false l)

place_keys : (i : ℕ) (ls : List Leg) → i + length ls ≤ 16 → map key_in (with_places i (map (tag_of false) ls)) ≡ map key_of_leg ls
unfolding with_places
place_keys i [] h = refl
place_keys i (l ∷ ls) h = ap₂ ◌∷◌ (place_key l i (omega arith)) (place_keys (suc i) ls (omega arith))

rooted_keys : (i : ℕ) (ls : List Leg) → i + length ls ≤ 16 → keys_of (with_places i (map (tag_of false) ls)) (map (λ l. l.root) ls) ≡ map rooted_key ls
unfolding with_places zip_with
rooted_keys i [] h = refl
rooted_keys i (l ∷ ls) h = ap₂ ◌∷◌ (ap (λ (k : ℕ). (k, l.root)) (place_key l i (omega arith))) (rooted_keys (suc i) ls (omega arith))

one_key : (a b : Leg) → is_same_series a b ≡ true → is_same_key (rooted_key a) (rooted_key b) ≡ true
one_key a b h =
    let k = and_both _ _ h in
    let e = and_both _ _ k.0 in
    let c = and_both _ _ e.0 in
    let p = same_eq a.series.call b.series.call c.1 in
    let q = eqb-true a.series.expiry b.series.expiry e.1 in
    let s = eqb-true a.series.strike.0 b.series.strike.0 k.1 in
    and_of (eq-eqb (key_of_leg a) (key_of_leg b) (λ i. key_of false (record { call = p i; expiry = q i; strike = record { 0 = s i } }))) c.0

-- two legs of one series have one key and one root
key_says : (a b : Leg) → InRange a.series → InRange b.series → is_same_key (rooted_key a) (rooted_key b) ≡ is_same_series a b
key_says a b r q = same_test _ _ (λ e. let k = and_both _ _ e in equal_series a b (eqb-true _ _ k.1) (key_tells false a.series b.series r q (eqb-true _ _ k.0))) (one_key a b)

-- of one root, the key is enough
key_alone : (a b : Leg) → a.root ≡ b.root → InRange a.series → InRange b.series → eqb (key_of_leg a) (key_of_leg b) ≡ is_same_series a b
key_alone a b h r q = sym (and_true _) ∙ ap (λ (c : Bool). eqb (key_of_leg a) (key_of_leg b) && c) (sym (eq-eqb a.root b.root h)) ∙ key_says a b r q

-- ---- the answer

module _ (places roots sizes : List ℕ) (few : length places ≤ 16) (beside : length roots ≡ length places) (ls : List Leg) (placed : Placed ls places sizes roots) (number : length ls ≡ length places)
    (ranges : All (λ l. InRange l.series) ls) where
  tags : places ≡ with_places 0 (map (tag_of false) ls)
  tags = sym (take_all (length ls) places (omega arith)) ∙ placed.each_tag

  each_root : roots ≡ map (λ l. l.root) ls
  each_root = sym (take_all (length ls) roots (omega arith)) ∙ placed.each_root

  pub of_several : some_pair is_same_key (keys_of places roots) ≡ some_pair is_same_series ls
  of_several =
      ap (some_pair is_same_key) (ap₂ keys_of tags each_root ∙ rooted_keys 0 ls (omega arith))
      ∙ same_pairs rooted_key is_same_key is_same_series (λ l. InRange l.series) key_says ls ranges

  pub of_one : some_pair is_other_root ls ≡ false → some_next (sort_keys places) ≡ some_pair is_same_series ls
  of_one one =
      sorted_next places
      ∙ ap (some_pair eqb) (ap (map key_in) tags ∙ place_keys 0 ls (omega arith))
      ∙ same_pairs key_of_leg eqb is_same_series _ (λ a b p q. key_alone a b (p.1 ∙ sym q.1) p.0 q.0) ls (both ls ranges (one_root ls one))
    where
      both : (xs : List Leg) → All (λ l. InRange l.series) xs → All (λ l. l.root ≡ root_of ls) xs → All (λ l. InRange l.series × (l.root ≡ root_of ls)) xs
      both [] h k = tt
      both (x ∷ xs) h k = ((h.0, k.0), both xs h.1 k.1)

-- ---- the first places of an array

pub twice_front : (n : ℕ) (other : Bool) (places roots after : List ℕ) (r : Bool) → n ≤ length places → SortedTwice other (take n places) (take n roots) after r
    → (ls : List Leg) (sizes : List ℕ) → Placed ls places sizes roots → length ls ≡ n → All (λ l. InRange l.series) ls → other ≡ some_pair is_other_root ls → r ≡ some_pair is_same_series ls
twice_front n other places roots after r fits s ls sizes p e =
    let front : (xs : List ℕ) → take (length ls) (take n xs) ≡ take (length ls) xs = λ xs. take-take (length ls) n xs (omega arith) in
    s.twice ls sizes (record { each_tag = front places ∙ p.each_tag; each_size = p.each_size; each_root = front roots ∙ p.each_root }) (e ∙ sym (length-take-le n places fits))
