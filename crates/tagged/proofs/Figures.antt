-- The figure over tags and open contracts, as the walk's loops take it.
use mathlib.Core.Path.{◌≡◌, refl, sym, ap, ap₂, ◌∙◌}
use mathlib.Core.List.{List, [], ◌∷◌, ◌++◌, zip_with}
use mathlib.Core.Logic.{inr}
use mathlib.Core.Bool.{Bool, true, false, cond}
use Prim.Native.Nat.{ℕ, zero, suc, ◌+◌, ◌-◌, ◌/◌, ◌<◌, ◌≤◌, min}
use native.Mathlib.Omega.{arith}
use lib.Dec.{eqb}
use lib.IntN.{ℤ, pos, nat_abs, sub_ℕ}
use lib.ListN.{length, take, drop, get_or, set, length-set, length-drop, take-append-drop, drop_of_length-le}
use lib.Seq.{get_or-drop, drop-set-lt, drop-set-add, drop-drop}
use Rattle.std.proofs.lemmas.Int.{ints}
use mir.Syntax.{w64}
use mir.Val.{to_z, of_z}
use borrow.Author.Tests.{eqb-true, eqb-false, eq-eqb, ne_eqb}
use Rattle.rules.specs.declared.Series.{Series}
use Rattle.rules.specs.declared.Leg.{Leg}
use Rattle.rules.specs.Lists.{All}
use Rattle.rules.specs.Pairing.{less, matched, reach}
use Rattle.rules.specs.OpenContracts.{sign, adjusted, shows_other, open_on, open_contracts}
use Rattle.rules.specs.Order.{no_leg}
use Rattle.open_contracts.proofs.Open.{Grouping, Lined, open_past, open_few, open_alike, figure_small, one_sided_lem}
use Rattle.open_contracts.proofs.Sides.{walk_each_two}
use Rattle.open_contracts.proofs.Searching as searching
use Rattle.open_contracts.proofs.Searching.{Searching}
use Rattle.open_contracts.proofs.Running.{parts, closing}
use Rattle.sorting.specs.Keys.{EachTwo}
use Rattle.keys.specs.Tags.{group_of, series_at, is_bought, leg_at, legs_from}
use Rattle.arranging.proofs.Zip.{zip_set}
use Rattle.tagged.specs.declared.PairTally.{PairTally}
use Rattle.tagged.specs.declared.Step.{Step}
use Rattle.tagged.specs.Tags.{together, matched_at, InSequence, legs_from_on, series_in, Counts, OneSideOpen, Stands, reached, Reaches}
use Rattle.tagged.proofs.Tagging.{group, matched_tags}
use Rattle.tagged.proofs.Walking.{later, step}
use Rattle.tagged.proofs.Numbered.{all_at, tag_at_small, legs_full, leg_is, Outer}

pub grouping : (second : Bool) → Grouping (together second)
grouping true = parts (λ s. s.strike.0)
grouping false = parts (λ s. s.expiry)

-- ---- lists from a place on

zip_drop : {A B C : Type 0} (f : A → B → C) (j : ℕ) (xs : List A) (ys : List B) → length xs ≡ length ys → drop j (zip_with f xs ys) ≡ zip_with f (drop j xs) (drop j ys)
unfolding zip_with
zip_drop f zero xs ys h = refl
zip_drop f (suc j) [] [] h = refl
zip_drop f (suc j) [] (y ∷ ys) h = absurd (omega arith)
zip_drop f (suc j) (x ∷ xs) [] h = absurd (omega arith)
zip_drop f (suc j) (x ∷ xs) (y ∷ ys) h = zip_drop f j xs ys (omega arith)

all_drop : {A : Type 0} (P : A → Type 0) (j : ℕ) (xs : List A) → All P xs → All P (drop j xs)
all_drop P zero xs h = h
all_drop P (suc j) [] h = h
all_drop P (suc j) (x ∷ xs) h = all_drop P j xs h.1

each_two_drop : (R : ℕ → ℕ → Type 0) (j : ℕ) (xs : List ℕ) → EachTwo R xs → EachTwo R (drop j xs)
each_two_drop R zero xs h = h
each_two_drop R (suc j) [] h = h
each_two_drop R (suc j) (x ∷ xs) h = each_two_drop R j xs h.1

all_set : (P : ℕ → Type 0) (xs : List ℕ) (j v : ℕ) → All P xs → P v → All P (set xs j v)
all_set P [] j v h p = tt
all_set P (x ∷ xs) zero v h p = (p, h.1)
all_set P (x ∷ xs) (suc j) v h p = (h.0, all_set P xs j v h.1 p)

before : (a b : ℕ) → (a ≡ b → ⊥) → a ≤ b → a < b
before a b d l = omega arith

-- ---- tags that rise

-- legs of tags above `t`: its group stands before all others
lined_tags : (root : ℕ) (second : Bool) (t : ℕ) → t < 40000000000000000 → (ts ns : List ℕ)
    → All (λ u. t / 2 < u / 2) ts → EachTwo (λ a b. a / 2 < b / 2) ts → All (λ u. u < 40000000000000000) ts
    → Lined (together second) (series_at second (t / 2)) (legs_from root second ts ns)
unfolding zip_with
lined_tags root second t h [] ns a r s = tt
lined_tags root second t h (u ∷ ts) [] a r s = tt
lined_tags root second t h (u ∷ ts) (n ∷ ns) a r s = ((λ e. others ts ns (apart e) r.0 s.1), lined_tags root second t h ts ns a.1 r.1 s.1)
  where
    apart : together second (series_at second (t / 2)) (series_at second (u / 2)) ≡ false → group_of t < group_of u
    apart e = let d = eqb-false (group_of t) (group_of u) (sym (group root second t u h s.0) ∙ e) in before (group_of t) (group_of u) d (omega (arith, a.0))

    others : (vs ms : List ℕ) → group_of t < group_of u → All (λ v. u / 2 < v / 2) vs → All (λ v. v < 40000000000000000) vs
        → All (λ z. together second (series_at second (t / 2)) z.series ≡ false) (legs_from root second vs ms)
    others [] ms g k l = tt
    others (v ∷ vs) [] g k l = tt
    others (v ∷ vs) (m ∷ ms) g k l = (group root second t v h l.0 ∙ ne_eqb (group_of t) (group_of v) (λ e. absurd (omega (arith, k.0))), others vs ms g k.1 l.1)

module _ (tags left : List ℕ) (q : InSequence tags left) where
  -- contracts in their limit are put at a place
  pub sequence_set : (j v : ℕ) → v ≤ 10000 → InSequence tags (set left j v)
  sequence_set j v p =
      record {
        few = q.few;
        long = length-set left j v ∙ q.long;
        small = q.small;
        rising = q.rising;
        counts = all_set (λ s. s ≤ 10000) left j v q.counts p;
      }

  pub count_at : (j : ℕ) → j < length tags → get_or left j 0 ≤ 10000
  count_at j h = all_at (λ s. s ≤ 10000) left q.counts j (omega (arith, q.long))

  -- the tags behind one have greater keys
  above : (i j : ℕ) → i < length tags → i < j → All (λ u. get_or tags i 0 / 2 < u / 2) (drop j tags)
  above i j h l =
      let place : i + 1 + (j - (i + 1)) ≡ j = omega arith in
      let a = (rw (step 0 tags i h) at (each_two_drop (λ a b. a / 2 < b / 2) i tags q.rising)).0 in
      rw place at (rw (drop-drop (j - (i + 1)) (i + 1) tags) at (all_drop (λ u. get_or tags i 0 / 2 < u / 2) (j - (i + 1)) (drop (i + 1) tags) a))

  pub rises : (i j : ℕ) → i < j → j < length tags → get_or tags i 0 / 2 < get_or tags j 0 / 2
  rises i j l k = (rw (step 0 tags j k) at (above i j (omega arith) l)).0

module _ (tags left : List ℕ) (q : InSequence tags left) (second : Bool) (root : ℕ) where
  abbrev legs : List Leg
  legs = legs_from root second tags left

  full : length legs ≡ length tags
  full = legs_full tags q.small second root left q.long

  -- the legs from `j` on, by their tags and contracts
  from : (j : ℕ) → legs_from_on root tags left second j ≡ legs_from root second (drop j tags) (drop j left)
  from j = zip_drop (leg_at root second) j tags left (sym q.long)

  -- the leg at `j` and those behind it
  pub next_leg : (j : ℕ) → j < length tags → legs_from_on root tags left second j ≡ leg_at root second (get_or tags j 0) (get_or left j 0) ∷ legs_from_on root tags left second (j + 1)
  next_leg j h =
      step no_leg legs j (omega (arith, full))
      ∙ ap (λ (z : Leg). z ∷ legs_from_on root tags left second (j + 1)) (leg_is tags q.small second root left j q.long h)

  no_leg_lem : (j : ℕ) → length tags ≤ j → legs_from_on root tags left second j ≡ []
  no_leg_lem j h = drop_of_length-le legs {i = j} (omega (arith, full))

  -- ---- groups

  pub lined : (i j : ℕ) → i < length tags → i < j → Lined (together second) (series_in tags second i) (legs_from_on root tags left second j)
  lined i j h l =
      rw (from j)
      (lined_tags root second (get_or tags i 0) (tag_at_small tags q.small i h) (drop j tags) (drop j left) (above tags left q i j h l) (each_two_drop (λ a b. a / 2 < b / 2) j tags q.rising) (all_drop (λ u. u < 40000000000000000) j tags q.small))

  -- ---- bounds

  sizes : (ts ns : List ℕ) → All (λ s. s ≤ 10000) ns → All (λ (l : Leg). l.size ≤ 10000) (legs_from root second ts ns)
  unfolding zip_with
  sizes [] ns h = tt
  sizes (t ∷ ts) [] h = tt
  sizes (t ∷ ts) (m ∷ ns) h = (h.0, sizes ts ns h.1)

  pub figure_fits : (s : Series) (j : ℕ) → nat_abs (open_contracts (together second) s (legs_from_on root tags left second j)) ≤ 160000
  figure_fits s j = figure_small (together second) s 160000 (legs_from_on root tags left second j) (λ side. omega (arith, open_few (together second) side s 10000 (legs_from_on root tags left second j) counted, short))
    where
      counted : All (λ (l : Leg). l.size ≤ 10000) (legs_from_on root tags left second j)
      counted = rw (from j) (sizes (drop j tags) (drop j left) (all_drop (λ s. s ≤ 10000) j left q.counts))

      short : length (legs_from_on root tags left second j) ≤ 16
      short = omega (arith, length-drop j legs, full, q.few)

  -- ---- the figure with which a leg begins

  nothing : (s : Series) (j : ℕ) → length tags ≤ j → open_contracts (together second) s (legs_from_on root tags left second j) ≡ pos 0
  unfolding open_on
  nothing s j h = rw (no_leg_lem j h) refl

  module _ (i : ℕ) (s : Step) (h : i < length tags) (g : Stands tags left (i + 1) s) where
    abbrev Begins : Bool → Type 0
    Begins same = cond same s.figure (pos 0) ≡ open_contracts (together second) (series_in tags second i) (legs_from_on root tags left second (i + 1))

    first_of_all : i + 1 ≡ length tags → (same : Bool) → Begins same
    first_of_all e true = g.figure root second ∙ nothing (series_in tags second (i + 1)) (i + 1) (omega arith) ∙ sym (nothing (series_in tags second i) (i + 1) (omega arith))
    first_of_all e false = sym (nothing (series_in tags second i) (i + 1) (omega arith))

    module _ (l : i + 1 < length tags) where
      grouped : together second (series_in tags second i) (series_in tags second (i + 1)) ≡ eqb (group_of (get_or tags i 0)) (group_of (get_or tags (i + 1) 0))
      grouped = group root second (get_or tags i 0) (get_or tags (i + 1) 0) (tag_at_small tags q.small i h) (tag_at_small tags q.small (i + 1) l)

      goes_on : s.group ≡ group_of (get_or tags i 0) → Begins true
      goes_on e =
          let one = grouped ∙ eq-eqb (group_of (get_or tags i 0)) (group_of (get_or tags (i + 1) 0)) (sym e ∙ g.group l) in
          let alike : (side : Bool) → open_on (together second) side (series_in tags second i) (legs_from_on root tags left second (i + 1)) ≡ open_on (together second) side (series_in tags second (i + 1)) (legs_from_on root tags left second (i + 1)) = λ side. open_alike (together second) (grouping second) side (series_in tags second i) (series_in tags second (i + 1)) (legs_from_on root tags left second (i + 1)) one in
          g.figure root second ∙ sym (ap₂ sub_ℕ (alike true) (alike false))

      new_group : (s.group ≡ group_of (get_or tags i 0) → ⊥) → Begins false
      new_group d =
          let two = grouped ∙ ne_eqb (group_of (get_or tags i 0)) (group_of (get_or tags (i + 1) 0)) (λ e. d (g.group l ∙ sym e)) in
          let there = next_leg (i + 1) l in
          let none : (side : Bool) → open_on (together second) side (series_in tags second i) (legs_from_on root tags left second (i + 1)) ≡ 0 = λ side. rw there (open_past (together second) side (series_in tags second i) (leg_at root second (get_or tags (i + 1) 0) (get_or left (i + 1) 0)) (legs_from_on root tags left second (i + 1 + 1)) (rw there at (lined i (i + 1) h (omega arith))) two) in
          sym (ap₂ sub_ℕ (none true) (none false))

    pub begins : Begins (eqb s.group (group_of (get_or tags i 0)))
    begins = go (eqb (i + 1) (length tags)) refl (eqb s.group (group_of (get_or tags i 0))) refl
      where
        go : (last : Bool) → eqb (i + 1) (length tags) ≡ last → (same : Bool) → eqb s.group (group_of (get_or tags i 0)) ≡ same → Begins same
        go true e same f = first_of_all (eqb-true (i + 1) (length tags) e) same
        go false e true f = goes_on (before (i + 1) (length tags) (eqb-false (i + 1) (length tags) e) (omega arith)) (eqb-true s.group (group_of (get_or tags i 0)) f)
        go false e false f = new_group (before (i + 1) (length tags) (eqb-false (i + 1) (length tags) e) (omega arith)) (eqb-false s.group (group_of (get_or tags i 0)) f)

  -- what is put at `i` is not behind it
  pub put_before : (i x : ℕ) → i < length tags → legs_from_on root tags (set left i x) second (i + 1) ≡ legs_from_on root tags left second (i + 1)
  put_before i x h =
      let z = leg_at root second (get_or tags i 0) x in
      ap (drop (i + 1)) (zip_set (leg_at root second) tags left i 0 x h)
      ∙ drop-set-lt (i + 1) legs i z (omega arith)

  -- what the leg at `i` has left is open from now on
  pub closes : (i : ℕ) → i < length tags → let s = series_in tags second i in
      adjusted (open_contracts (together second) s (legs_from_on root tags left second (i + 1))) (sign (is_bought (get_or tags i 0))) (get_or left i 0) ≡ open_contracts (together second) s (legs_from_on root tags left second i)
  closes i h =
      let s = series_in tags second i in
      closing (together second) s (leg_at root second (get_or tags i 0) (get_or left i 0)) (legs_from_on root tags left second (i + 1)) ((grouping second).self s)
      ∙ ap (open_contracts (together second) s) (sym (next_leg i h))

  -- ---- the search of the leg at `i`, which has `x` left

  module _ (i : ℕ) (h : i < length tags) where
    abbrev pub Searches : ℕ → ℕ → ℤ → Type 0
    Searches x j f = Searching (together second) (leg_at root second (get_or tags i 0) x) (legs_from_on root tags left second (i + 1)) (legs_from_on root tags left second j) f

    module _ (x j : ℕ) (f : ℤ) (g : Searches x j f) (p : 0 < x) (e : shows_other f (sign (is_bought (get_or tags i 0))) ≡ true) where
      -- there is a leg at `j`
      pub inside : j ≤ length tags → j < length tags
      inside l = before j (length tags) (λ d. searching.some (together second) (rw (no_leg_lem j (omega arith)) at g) p e) l

      -- with which as many contracts are matched as the smaller has open
      pub meets : i < j → (l : j < length tags) → matched_at (get_or tags i 0) x (get_or tags j 0) (get_or left j 0) ≡ min x (get_or left j 0)
      meets k l =
          let there = next_leg j l in
          sym (matched_tags root second (get_or tags i 0) (get_or tags j 0) (tag_at_small tags q.small i h) (tag_at_small tags q.small j l) x (get_or left j 0))
          ∙ searching.meets (together second) (rw there at g) (rw there at (lined i j h k)) p e

    -- a leg that has nothing left is passed
    pub passed : (x j : ℕ) (f : ℤ) → Searches x j f → j < length tags → get_or left j 0 ≡ 0 → Searches x (j + 1) f
    passed x j f g l e = searching.pass (together second) (rw (next_leg j l) at g) e

  -- ---- the leg at `i` meets the one at `j` with `m` of its `x` contracts

  module _ (i j x m : ℕ) (k : i < j) (l : j < length tags) (em : m ≡ matched_at (get_or tags i 0) x (get_or tags j 0) (get_or left j 0)) where
    abbrev rear : List Leg
    rear = legs_from_on root tags left second (i + 1)

    abbrev at : ℕ
    at = j - (i + 1)

    place : i + 1 + at ≡ j
    place = omega arith

    long : at < length rear
    long = omega (arith, length-drop (i + 1) legs, full)

    there : get_or rear at no_leg ≡ leg_at root second (get_or tags j 0) (get_or left j 0)
    there =
        get_or-drop (i + 1) legs at no_leg
        ∙ ap (λ (u : ℕ). get_or legs u no_leg) place
        ∙ leg_is tags q.small second root left j q.long l

    abbrev after : List ℕ
    after = set left j (get_or left j 0 - m)

    abbrev z : Leg
    z = leg_at root second (get_or tags j 0) (get_or left j 0 - m)

    stored : legs_from root second tags after ≡ set legs j z
    stored = zip_set (leg_at root second) tags left j 0 (get_or left j 0 - m) l

    rears : legs_from_on root tags after second (i + 1) ≡ set rear at z
    rears = ap (drop (i + 1)) stored ∙ ap (λ (u : ℕ). drop (i + 1) (set legs u z)) (sym place) ∙ drop-set-add (i + 1) legs at z

    rests : legs_from_on root tags after second (j + 1) ≡ legs_from_on root tags left second (j + 1)
    rests = ap (drop (j + 1)) stored ∙ drop-set-lt (j + 1) legs j z (omega arith)

    as_legs : m ≡ matched (together second) (leg_at root second (get_or tags i 0) x) (leg_at root second (get_or tags j 0) (get_or left j 0))
    as_legs = em ∙ sym (matched_tags root second (get_or tags i 0) (get_or tags j 0) (tag_at_small tags q.small i (omega arith)) (tag_at_small tags q.small j l) x (get_or left j 0))

    pub met_figure : adjusted (open_contracts (together second) (series_in tags second i) rear) (sign (is_bought (get_or tags i 0))) m ≡ open_contracts (together second) (series_in tags second i) (legs_from_on root tags after second (i + 1))
    met_figure =
        searching.matched_figure (together second) (leg_at root second (get_or tags i 0) x) rear at m long (rw there as_legs)
        ∙ ap (open_contracts (together second) (series_in tags second i)) (ap (λ (w : Leg). set rear at (less w m)) there ∙ sym rears)

    pub met : (f f' : ℤ) → Searching (together second) (leg_at root second (get_or tags i 0) x) rear (legs_from_on root tags left second j) f
        → f' ≡ open_contracts (together second) (series_in tags second i) (legs_from_on root tags after second (i + 1))
        → Searching (together second) (leg_at root second (get_or tags i 0) (x - m)) (legs_from_on root tags after second (i + 1)) (legs_from_on root tags after second (j + 1)) f'
    met f f' g e = rw (rears, rests) (searching.next (together second) (rw (next_leg j l) at g) at m f' long there as_legs (rw rears at e))

-- a figure that counts what is open is small, and a local of 64 bits holds it
pub figure_bound : (tags left : List ℕ) → InSequence tags left → (i j : ℕ) (f : ℤ) → Counts tags left i j f → nat_abs f ≤ 160000
figure_bound tags left q i j f counts = rw (counts 0 false) (figure_fits tags left q false 0 (series_in tags false i) j)

pub figure_held : (tags left : List ℕ) → InSequence tags left → (i j : ℕ) (f : ℤ) → Counts tags left i j f → to_z w64 (of_z w64 f) ≡ f
figure_held tags left q i j f counts = omega (arith, ints, figure_bound tags left q i j f counts)

-- the figure does not show the other side: the leg at `i` meets nothing
module _ (tags left : List ℕ) (q : InSequence tags left) (i : ℕ) (h : i < length tags) (f : ℤ) (counts : Counts tags left i (i + 1) f) (one : OneSideOpen tags left i)
    (unshown : shows_other f (sign (is_bought (get_or tags i 0))) ≡ false) where
  module _ (root : ℕ) (second : Bool) where
    x : Leg
    x = leg_at root second (get_or tags i 0) (get_or left i 0)

    behind : List Leg
    behind = legs_from_on root tags left second (i + 1)

    alone : reached root tags left i second ≡ record { pairs = []; leg = x; legs = behind }
    unfolding x behind
    alone =
        ap (λ (z : Leg). reach (together second) z behind) (leg_is tags q.small second root left i q.long h)
        ∙ searching.stop (together second) (searching.start (together second) x behind f (counts root second) (one root second)) (inr unshown)

    whole : legs_from root second tags left ≡ take i (legs_from root second tags left) ++ (x ∷ behind)
    unfolding x behind
    whole =
        let legs = legs_from root second tags left in
        sym (take-append-drop i legs)
        ∙ ap (λ (ls : List Leg). take i legs ++ ls) (next_leg tags left q second root i h)

  pub unsearched : (t : PairTally) → Reaches tags left left i t t
  unsearched t =
      record {
        legs = λ root second. rw (alone root second) (whole root second);
        tally = λ root second. rw (alone root second);
        few = omega arith;
        sequence = q;
      }

-- ---- the walk

-- nothing is walked yet
pub stands_first : (tags left : List ℕ) → InSequence tags left → (s : Step) → s.figure ≡ pos 0 → Stands tags left (length tags) s
stands_first tags left q s e = record { figure = λ root second. e ∙ sym (nothing tags left q second root (series_in tags second (length tags)) (length tags) (omega arith)); group = λ h. absurd (omega arith) }

-- what the walk of the legs behind `i` left
pub one_side_walked : (tags left₀ left : List ℕ) → All (λ t. t < 40000000000000000) tags → length left₀ ≡ length tags → (t : PairTally) (i : ℕ) → i < length tags → ((root : ℕ) (second : Bool) → Outer tags second root left₀ left t (i + 1)) → OneSideOpen tags left i
one_side_walked tags left₀ left small l t i h o root second =
    let same = together second in
    let legs = legs_from root second tags left₀ in
    let e = later same legs (legs_from root second tags left) i (omega (arith, legs_full tags small second root left₀ l)) (o root second).done in
    one_sided_lem same (grouping second) (series_in tags second i) (legs_from_on root tags left second (i + 1)) (rw e (walk_each_two same (drop (i + 1) legs)))
