-- The turns of both loops, on tags and open contracts.
use mathlib.Core.Path.{◌≡◌, refl, sym, ap, ◌∙◌}
use mathlib.Core.List.{List, [], ◌∷◌, ◌++◌}
use mathlib.Core.Bool.{Bool}
use Prim.Native.Nat.{ℕ, zero, suc, ◌+◌, ◌-◌, ◌<◌}
use native.Mathlib.Omega.{arith}
use native.Mathlib.Nat.{sub-zero}
use lib.ListN.{length, take, drop, get_or, set}
use lib.Seq.{set-get_or}
use Rattle.rules.specs.declared.Leg.{Leg}
use Rattle.rules.specs.Lists.{All}
use Rattle.rules.specs.Pairing.{Reached, less, pair_of, matched, reach, walk}
use Rattle.rules.specs.Order.{no_leg}
use Rattle.keys.specs.Tags.{group_of, leg_at, legs_from}
use Rattle.tagged.specs.declared.PairTally.{PairTally}
use Rattle.tagged.specs.Tags.{together, matched_at, note_at, none, noted, reached}
use Rattle.arranging.proofs.Zip.{zip_length, zip_at, zip_set}
use Rattle.tagged.proofs.Tagging.{matched_tags, note_tags, matched_group}
use Rattle.tagged.proofs.Walking.{View, view, start_legs, start_tally, met, over, put, walked_legs, walked_tally}

-- what the inner loop still has to meet, after what it has met
abbrev pub inner : List ℕ → Bool → ℕ → List ℕ → PairTally → ℕ → ℕ → ℕ → View
inner tags second root left t tx x j =
    let legs = legs_from root second tags left in view t (take j legs) (reach (together second) (leg_at root second tx x) (drop j legs))

-- what the outer loop keeps: the legs from `i` on are walked, and those before it stand as they came
pub record Outer (tags : List ℕ) (second : Bool) (root : ℕ) (left₀ left : List ℕ) (t : PairTally) (i : ℕ) : Type 0 where
  pub done : legs_from root second tags left ≡ take i (legs_from root second tags left₀) ++ (walk (together second) (drop i (legs_from root second tags left₀))).legs
  pub counted : t ≡ noted none (walk (together second) (drop i (legs_from root second tags left₀))).pairs

note_none : (t : PairTally) (tx ty : ℕ) → t ≡ note_at t tx ty 0
unfolding note_at
note_none t tx ty = refl

module _ (P : ℕ → Type 0) where
  pub all_at : (xs : List ℕ) → All P xs → (i : ℕ) → i < length xs → P (get_or xs i 0)
  all_at [] h i l = absurd (omega arith)
  all_at (x ∷ xs) h zero l = h.0
  all_at (x ∷ xs) h (suc i) l = all_at xs h.1 i (omega arith)

module _ (tags : List ℕ) (tags_small : All (λ t. t < 40000000000000000) tags) where
  -- the bound of the tag at `i`
  pub tag_at_small : (i : ℕ) → i < length tags → get_or tags i 0 < 40000000000000000
  tag_at_small i h = all_at (λ t. t < 40000000000000000) tags tags_small i h

module _ (tags : List ℕ) (tags_small : All (λ t. t < 40000000000000000) tags) (second : Bool) (root : ℕ) where
  abbrev legs : List ℕ → List Leg
  legs left = legs_from root second tags left

  pub legs_full : (left : List ℕ) → length left ≡ length tags → length (legs left) ≡ length tags
  legs_full left l = zip_length (leg_at root second) tags left (sym l)

  pub leg_is : (left : List ℕ) (i : ℕ) → length left ≡ length tags → i < length tags → get_or (legs left) i no_leg ≡ leg_at root second (get_or tags i 0) (get_or left i 0)
  leg_is left i l h = zip_at (leg_at root second) tags left i 0 0 no_leg h (omega arith)

  pub inner_turn : (left : List ℕ) (t t' : PairTally) (tx x j m : ℕ) → length left ≡ length tags → tx < 40000000000000000 → j < length tags
      → m ≡ matched_at tx x (get_or tags j 0) (get_or left j 0)
      → t' ≡ note_at t tx (get_or tags j 0) m
      → inner tags second root (set left j (get_or left j 0 - m)) t' tx (x - m) (j + 1) ≡ inner tags second root left t tx x j
  inner_turn left t t' tx x j m l small h em et =
      let ty = get_or tags j 0 in
      let y = get_or left j 0 in
      let is = leg_is left j l h in
      let g = matched_tags root second tx ty small (tag_at_small tags tags_small j h) x y in
      let e₁ : m ≡ matched (together second) (leg_at root second tx x) (get_or (legs left) j no_leg) = em ∙ sym g ∙ ap (matched (together second) (leg_at root second tx x)) (sym is) in
      let one : 0 < m → group_of tx ≡ group_of ty = λ p. matched_group tx x ty y (rw em at p) in
      let e₂ : t' ≡ noted t (pair_of (leg_at root second tx x) (get_or (legs left) j no_leg) m) = et ∙ sym (note_tags t root second tx x ty y m one) ∙ ap (λ (w : Leg). noted t (pair_of (leg_at root second tx x) w m)) (sym is) in
      let e₃ : leg_at root second ty (y - m) ≡ less (get_or (legs left) j no_leg) m = ap (λ (w : Leg). less w m) (sym is) in
      let s : legs (set left j (y - m)) ≡ set (legs left) j (leg_at root second ty (y - m)) = zip_set (leg_at root second) tags left j 0 (y - m) h in
      ap (λ (v : List Leg). view t' (take (j + 1) v) (reach (together second) (leg_at root second tx (x - m)) (drop (j + 1) v))) s
      ∙ met (together second) (legs left) t t' (leg_at root second tx x) (leg_at root second tx (x - m)) (leg_at root second ty (y - m)) j m (omega (arith, legs_full left l)) e₁ e₂ e₃ refl

  -- where nothing is matched, nothing changes
  pub inner_skip : (left : List ℕ) (t : PairTally) (tx x j : ℕ) → length left ≡ length tags → tx < 40000000000000000 → j < length tags → matched_at tx x (get_or tags j 0) (get_or left j 0) ≡ 0
      → inner tags second root left t tx x (j + 1) ≡ inner tags second root left t tx x j
  inner_skip left t tx x j l small h e =
      let same : set left j (get_or left j 0 - 0) ≡ left = rw sub-zero (set-get_or left j 0) in
      ap (λ (v : List ℕ). inner tags second root v t tx x (j + 1)) (sym same)
      ∙ ap (λ (y : ℕ). inner tags second root (set left j (get_or left j 0 - 0)) t tx y (j + 1)) (sym (sub-zero x))
      ∙ inner_turn left t t tx x j 0 l small h (sym e) (note_none t tx (get_or tags j 0))

  -- the leg at `i` has nothing more to meet, and is put back
  module _ (left₀ left : List ℕ) (l₀ : length left₀ ≡ length tags) (t₀ t : PairTally) (x i j : ℕ) (h : i < length tags)
      (last : reach (together second) (leg_at root second (get_or tags i 0) x) (drop j (legs left)) ≡ record { pairs = []; leg = leg_at root second (get_or tags i 0) x; legs = drop j (legs left) })
      (kept : inner tags second root left t (get_or tags i 0) x j ≡ inner tags second root left₀ t₀ (get_or tags i 0) (get_or left₀ i 0) (i + 1)) where
    q : Reached
    q = reached root tags left₀ i second

    all_met : record { tally = t; leg = leg_at root second (get_or tags i 0) x; legs = legs left } ≡ view t₀ (take (i + 1) (legs left₀)) q
    unfolding q
    all_met =
        sym (over (together second) (legs left) t (leg_at root second (get_or tags i 0) x) j last)
        ∙ kept
        ∙ ap (λ (w : Leg). view t₀ (take (i + 1) (legs left₀)) (reach (together second) w (drop (i + 1) (legs left₀)))) (sym (leg_is left₀ i l₀ h))

    pub inner_legs : legs (set left i x) ≡ take i (legs left₀) ++ ((reached root tags left₀ i second).leg ∷ (reached root tags left₀ i second).legs)
    unfolding q
    inner_legs =
        zip_set (leg_at root second) tags left i 0 x h
        ∙ put (legs left) (legs left₀) (leg_at root second (get_or tags i 0) x) q.leg q.legs i (omega (arith, legs_full left₀ l₀)) (ap (λ (v : View). v.leg) all_met) (ap (λ (v : View). v.legs) all_met)

    pub inner_tally : t ≡ noted t₀ (reached root tags left₀ i second).pairs
    unfolding q
    inner_tally = ap (λ (v : View). v.tally) all_met

  pub outer_start : (left : List ℕ) → length left ≡ length tags → Outer tags second root left left none (length tags)
  outer_start left l = record { done = start_legs (together second) (legs left) (length tags) (legs_full left l); counted = start_tally (together second) (legs left) (length tags) (legs_full left l) }

  pub outer_turn : (left₀ left after : List ℕ) (t t' : PairTally) (i : ℕ) → length left₀ ≡ length tags → i < length tags → Outer tags second root left₀ left t (i + 1)
      → legs after ≡ take i (legs left) ++ ((reached root tags left i second).leg ∷ (reached root tags left i second).legs)
      → t' ≡ noted t (reached root tags left i second).pairs
      → Outer tags second root left₀ after t' i
  outer_turn left₀ left after t t' i l₀ h o e f =
      let k : i < length (legs left₀) = omega (arith, legs_full left₀ l₀) in
      record {
        done = e ∙ walked_legs (together second) (legs left₀) (legs left) i k o.done;
        counted = f ∙ walked_tally (together second) (legs left₀) (legs left) i k o.done t o.counted;
      }
