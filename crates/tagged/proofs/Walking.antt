-- The walk over a list of legs, as the code's two loops take it.
use mathlib.Core.Path.{◌≡◌, refl, sym, ap, ◌∙◌}
use mathlib.Core.List.{List, [], ◌∷◌, ◌++◌, append-nil}
use mathlib.Core.Bool.{Bool}
use Prim.Native.Nat.{ℕ, suc, ◌+◌, ◌<◌, ◌≤◌}
use native.Mathlib.Omega.{arith}
use native.Mathlib.Numerals.{add-one}
use lib.ListN.{length, take, drop, get_or, set, get_or-append, take-append-drop, drop_of_length-le}
use lib.Seq.{drop-cons, get_or-take, length-take-le, take-suc, take-suc-set, drop-set-lt, append_snoc, set_at, drop_at, take-take, take-append-le}
use Rattle.std.proofs.lemmas.List.{take_all}
use Rattle.rules.specs.declared.Series.{Series}
use Rattle.rules.specs.declared.Leg.{Leg}
use Rattle.rules.specs.Pairing.{Pair, Reached, Walked, less, pair_of, is_debit, matched, reach, walk}
use Rattle.rules.specs.Order.{no_leg}
use Rattle.tagged.specs.declared.PairTally.{PairTally}
use Rattle.tagged.specs.Tags.{none, noted, one_more}

pub noted_append : (t : PairTally) (ms ns : List Pair) → noted t (ms ++ ns) ≡ noted (noted t ms) ns
noted_append t [] ns = refl
noted_append t (m ∷ ms) ns = noted_append (one_more t (is_debit m.buy m.sell)) ms ns

-- what the inner loop keeps: `front` stands before the legs that are still to be met
pub record View : Type 0 where
  pub tally : PairTally
  pub leg : Leg
  pub legs : List Leg

abbrev pub view : PairTally → List Leg → Reached → View
view t front q = record { tally = noted t q.pairs; leg = q.leg; legs = front ++ q.legs }

-- the first leg of those walked before is met with `m` contracts
reach_cons : (same : Series → Series → Bool) (x y : Leg) (ys : List Leg) (m : ℕ) → m ≡ matched same x y →
    let r = reach same (less x m) ys in
    reach same x (y ∷ ys) ≡ record { pairs = pair_of x y m ++ r.pairs; leg = r.leg; legs = less y m ∷ r.legs }
unfolding reach
reach_cons same x y ys m e =
    ap (λ (k : ℕ). let r = reach same (less x k) ys in record { pairs = pair_of x y k ++ r.pairs; leg = r.leg; legs = less y k ∷ r.legs }) (sym e)

-- the leg at `i` and those behind it
pub step : {A : Type 0} (d : A) (xs : List A) (i : ℕ) → i < length xs → drop i xs ≡ get_or xs i d ∷ drop (i + 1) xs
step d xs i h = rw add-one (drop-cons xs i d h)

module _ (same : Series → Series → Bool) (legs : List Leg) where
  -- nothing is walked yet
  pub start_legs : (n : ℕ) → length legs ≡ n → legs ≡ take n legs ++ (walk same (drop n legs)).legs
  unfolding walk
  start_legs n e = let l : length legs ≤ n = omega arith in rw (drop_of_length-le legs {i = n} l) (sym (append-nil (take n legs) ∙ take_all n legs l))

  pub start_tally : (n : ℕ) → length legs ≡ n → none ≡ noted none (walk same (drop n legs)).pairs
  unfolding walk
  start_tally n e = let l : length legs ≤ n = omega arith in rw (drop_of_length-le legs {i = n} l)

  -- one turn of the inner loop: the leg at `j` is met
  pub met : (t t' : PairTally) (x x' z : Leg) (j m : ℕ) → j < length legs → let y = get_or legs j no_leg in
      m ≡ matched same x y → t' ≡ noted t (pair_of x y m) → z ≡ less y m → x' ≡ less x m →
      view t' (take (j + 1) (set legs j z)) (reach same x' (drop (j + 1) (set legs j z)))
      ≡ view t (take j legs) (reach same x (drop j legs))
  met t t' x x' z j m l em et ez ex =
      let k : j < suc j = omega arith in
      let y = get_or legs j no_leg in
      let q = reach same (less x m) (drop (suc j) legs) in
      rw (add-one, drop-cons legs j no_leg l, reach_cons same x y (drop (suc j) legs) m em, et, ex, drop-set-lt (suc j) legs j z k, take-suc-set legs j z l, ez)
      (λ i. record { tally = sym (noted_append t (pair_of x y m) q.pairs) i; leg = q.leg; legs = append_snoc (take j legs) (less y m) q.legs i })

  -- the legs from `j` on are met with nothing
  pub over : (t : PairTally) (x : Leg) (j : ℕ) → reach same x (drop j legs) ≡ record { pairs = []; leg = x; legs = drop j legs }
      → view t (take j legs) (reach same x (drop j legs)) ≡ record { tally = t; leg = x; legs = legs }
  over t x j e = ap (view t (take j legs)) e ∙ (λ i. record { tally = t; leg = x; legs = take-append-drop j legs i })

-- the leg reached is put back at its place
pub put : (legs l : List Leg) (x z : Leg) (rest : List Leg) (i : ℕ) → i < length l → x ≡ z → legs ≡ take (i + 1) l ++ rest → set legs i x ≡ take i l ++ (z ∷ rest)
put legs l x z rest i k d e =
    let f : length (take i l) ≡ i = length-take-le i l (omega arith) in
    let g : take (i + 1) l ++ rest ≡ take i l ++ (get_or l i no_leg ∷ rest) = rw (add-one, take-suc l i no_leg k) (append_snoc (take i l) (get_or l i no_leg) rest) in
    ap (λ (z : List Leg). set z i x) (e ∙ g)
    ∙ set_at (take i l) (get_or l i no_leg) rest x i f
    ∙ ap (λ (w : Leg). take i l ++ (w ∷ rest)) d

-- one turn of the outer loop: `now` are the legs after those behind `i` were walked
module _ (same : Series → Series → Bool) (legs now : List Leg) (i : ℕ) (h : i < length legs) where
  abbrev behind : Walked
  behind = walk same (drop (i + 1) legs)

  module _ (e : now ≡ take (i + 1) legs ++ behind.legs) where
    f : length (take (i + 1) legs) ≡ i + 1
    f = length-take-le (i + 1) legs (omega arith)

    pub later : drop (i + 1) now ≡ behind.legs
    later = ap (drop (i + 1)) e ∙ drop_at (take (i + 1) legs) behind.legs (i + 1) f

    here : get_or now i no_leg ≡ get_or legs i no_leg
    here =
        ap (λ (z : List Leg). get_or z i no_leg) e
        ∙ get_or-append (take (i + 1) legs) behind.legs no_leg i (omega (arith, f))
        ∙ get_or-take (i + 1) legs i no_leg (omega arith)

    before : take i now ≡ take i legs
    before =
        ap (take i) e
        ∙ take-append-le i (take (i + 1) legs) behind.legs (omega (arith, f))
        ∙ take-take i (i + 1) legs (omega arith)

    abbrev met_there : Reached
    met_there = reach same (get_or now i no_leg) (drop (i + 1) now)

    there : met_there ≡ reach same (get_or legs i no_leg) behind.legs
    there = rw (later, here)

    pub walked_legs : take i now ++ (met_there.leg ∷ met_there.legs) ≡ take i legs ++ (walk same (drop i legs)).legs
    unfolding walk
    walked_legs = rw (there, before, step no_leg legs i h)

    pub walked_tally : (t : PairTally) → t ≡ noted none behind.pairs → noted t met_there.pairs ≡ noted none (walk same (drop i legs)).pairs
    unfolding walk
    walked_tally t g = rw (there, g, step no_leg legs i h) (sym (noted_append none behind.pairs (reach same (get_or legs i no_leg) behind.legs).pairs))
