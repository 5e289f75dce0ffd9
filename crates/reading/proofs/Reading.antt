-- The legs one after another: what is known once the first `i` are read, and what reading answers.
use mathlib.Core.Path.{◌≡◌, refl, sym, subst, ap, ap₂, ◌∙◌}
use mathlib.Core.List.{List, [], ◌∷◌, map, map-map}
use mathlib.Core.Logic.{◌⊎◌, inl, inr, ⊎_elim}
use mathlib.Core.Bool.{Bool, true, false, not, ◌||◌}
use Prim.Native.Nat.{ℕ, ◌+◌, ◌≤◌, ◌<◌}
use native.Mathlib.Omega.{arith}
use lib.ListN.{length, take, drop, get_or, set, length-map, get_or-map}
use lib.Seq.{slice, get_or-take, take_all}
use lib.Dec.{eqb}
use borrow.Author.Tests.{eqb-true, eq-eqb, not-false}
use Rattle.std.proofs.Common.{Option, Some, None, Ok, Err}
use Rattle.std.proofs.lemmas.List.{at_drop_more, at_drop_all}
use Rattle.std.specs.Option.{IfSome, ok_or, unwrap_or}
use Rattle.answers.specs.declared.Refusal.{Refusal}
use Rattle.rules.specs.declared.RawLeg.{RawLeg}
use Rattle.rules.specs.declared.Leg.{Leg}
use Rattle.rules.specs.Lists.{any, some_pair}
use Rattle.rules.specs.Numerals.{value}
use Rattle.rules.specs.Symbol.{parts_of, is_symbol}
use Rattle.rules.specs.Order.{leg_of, legs_of, no_raw_leg}
use Rattle.rules.specs.Numbers.{is_bad_count, is_other_root}
use Rattle.rules.proofs.Tests.{or_false, or_assoc}
use Rattle.loops.proofs.Filling.{fill_turn}
use Rattle.sorting.specs.Keys.{with_places}
use Rattle.keys.specs.Tags.{Placed, tag_of, place_of}
use Rattle.arranging.proofs.Places.{place_turn}
use Rattle.leg_tag.specs.Known.{IsKnown, tag_at}
use Rattle.leg_tag.proofs.Tags.{root_known, no_leg, leg_read}

-- ---- what is known

abbrev pub is_bad_symbol : RawLeg → Bool
is_bad_symbol r = not (is_symbol r.symbol)

abbrev tag_in : RawLeg → ℕ
tag_in r = tag_of false (leg_of r)

abbrev root_in : RawLeg → ℕ
root_in r = (leg_of r).root

-- once the first `i` of the legs `rs` are read: the arrays so far, what is found with what remains to be read, and that the first leg's root is known
pub record AreRead (rs : List RawLeg) (i : ℕ) (places sizes roots : List ℕ) (known : Option ℕ) (other bad : Bool) : Type 0 where
  pub each_tag : take i places ≡ with_places 0 (map tag_in (take i rs))
  pub each_size : take i sizes ≡ map (λ r. (leg_of r).size) (take i rs)
  pub each_root : take i roots ≡ map root_in (take i rs)
  pub symbols : any is_bad_symbol (drop i rs) ≡ any is_bad_symbol rs
  pub counts : bad || any is_bad_count (drop i rs) ≡ any is_bad_count rs
  pub others : other || any (λ r. is_other_root (leg_of (get_or rs 0 no_raw_leg)) (leg_of r)) (drop i rs) ≡ any (λ r. is_other_root (leg_of (get_or rs 0 no_raw_leg)) (leg_of r)) rs
  pub is_known : IfSome known IsKnown
  pub starts : (i ≡ 0) ⊎ IsKnown (root_in (get_or rs 0 no_raw_leg))

pub none_read : (rs : List RawLeg) (places sizes roots : List ℕ) → AreRead rs 0 places sizes roots None false false
unfolding with_places
none_read rs places sizes roots = record { each_tag = refl; each_size = refl; each_root = refl; symbols = refl; counts = refl; others = refl; is_known = tt; starts = inl refl }

-- ---- one leg more

module _ (rs : List RawLeg) {i : ℕ} {places sizes roots : List ℕ} {known : Option ℕ} {other bad : Bool} (a : AreRead rs i places sizes roots known other bad) (here : i < length rs) where
  abbrev raw : RawLeg
  raw = get_or rs i no_raw_leg

  turn : (f : RawLeg → Bool) (r r' : Bool) → r' ≡ r || f raw → r' || any f (drop (i + 1) rs) ≡ r || any f (drop i rs)
  unfolding any
  turn f r r' e = rw (at_drop_more (any f) rs i no_raw_leg here, e) (or_assoc r (f raw) (any f (drop (i + 1) rs)))

  module _ (long : length raw.symbol ≡ 21) where
    pub bad_symbol : 0 ≡ tag_at raw.symbol raw.bought → any is_bad_symbol rs ≡ true
    unfolding any
    bad_symbol e = sym a.symbols ∙ rw (at_drop_more (any is_bad_symbol) rs i no_raw_leg here, no_leg raw long e)

    pub next_read : i < length places → i < length sizes → i < length roots → {t place root : ℕ} {other' bad' : Bool}
        → t ≡ tag_at raw.symbol raw.bought
        → 0 < t
        → place ≡ place_of t i
        → root ≡ value 256 0 (slice 0 6 raw.symbol)
        → other' ≡ other || not (eqb (get_or (set roots i root) 0 0) root)
        → bad' ≡ bad || is_bad_count raw
        → AreRead rs (i + 1) (set places i place) (set sizes i raw.size) (set roots i root) (Some (get_or (set roots i root) 0 0)) other' bad'
    unfolding leg_of parts_of value
    next_read lp ls lr {t} {place} {root} t_is above p r d n =
        let good = leg_read raw t_is above in
        let each_root = fill_turn no_raw_leg root_in rs roots i root here lr r a.each_root in
        let f : get_or (set roots i root) 0 0 ≡ root_in (get_or rs 0 no_raw_leg)
        = sym (get_or-take (i + 1) (set roots i root) 0 0 (omega arith)) ∙ ap (λ (ns : List ℕ). get_or ns 0 0) each_root ∙ get_or-map root_in (take (i + 1) rs) 0 no_raw_leg ∙ ap root_in (get_or-take (i + 1) rs 0 no_raw_leg (omega arith)) in
        let k : IsKnown (root_in (get_or rs 0 no_raw_leg)) = ⊎_elim (λ z. subst (λ (j : ℕ). IsKnown (root_in (get_or rs j no_raw_leg))) z (root_known raw.symbol long (not-false _ good.0))) (λ k. k) a.starts in
        record {
          each_tag = place_turn no_raw_leg tag_in rs places i place here lp (p ∙ ap (λ (m : ℕ). place_of m i) good.1) a.each_tag;
          each_size = fill_turn no_raw_leg (λ r. (leg_of r).size) rs sizes i raw.size here ls refl a.each_size;
          each_root = each_root;
          symbols = turn is_bad_symbol false false (sym good.0) ∙ a.symbols;
          counts = turn is_bad_count bad _ n ∙ a.counts;
          others = turn (λ r. is_other_root (leg_of (get_or rs 0 no_raw_leg)) (leg_of r)) other _ (d ∙ ap₂ (λ (x y : ℕ). other || not (eqb x y)) f r) ∙ a.others;
          is_known = rw f k;
          starts = inr k;
        }

-- ---- where two roots differ, one differs from the first

or_twice : (a b : Bool) → a || (a || b) ≡ a || b
or_twice true b = refl
or_twice false b = refl

one_root : (x : Leg) (rs : List RawLeg) → any (is_other_root x) (legs_of rs) || some_pair is_other_root (legs_of rs) ≡ any (λ r. is_other_root x (leg_of r)) rs
unfolding any some_pair legs_of
one_root x [] = refl
one_root x (r ∷ rs) = go (eqb x.root (leg_of r).root) refl (one_root x rs)
  where
    go : (b : Bool) → eqb x.root (leg_of r).root ≡ b → any (is_other_root x) (legs_of rs) || some_pair is_other_root (legs_of rs) ≡ any (λ r. is_other_root x (leg_of r)) rs
        → (not b || any (is_other_root x) (legs_of rs)) || (any (is_other_root (leg_of r)) (legs_of rs) || some_pair is_other_root (legs_of rs)) ≡ not b || any (λ r. is_other_root x (leg_of r)) rs
    go true e ih = rw (← eqb-true x.root (leg_of r).root e) (or_twice (any (is_other_root x) (legs_of rs)) (some_pair is_other_root (legs_of rs)) ∙ ih)
    go false e ih = refl

differ : (rs : List RawLeg) → any (λ r. is_other_root (leg_of (get_or rs 0 no_raw_leg)) (leg_of r)) rs ≡ some_pair is_other_root (legs_of rs)
unfolding any some_pair legs_of
differ [] = refl
differ (r ∷ rs) = rw (eq-eqb (leg_of r).root (leg_of r).root refl) (sym (one_root (leg_of r) rs))

-- ---- all legs

-- what is found once all are read
pub record AllRead (rs : List RawLeg) (places sizes roots : List ℕ) (other bad : Bool) : Type 0 where
  pub symbols : any is_bad_symbol rs ≡ false
  pub counts : any is_bad_count rs ≡ bad
  pub placed : Placed (legs_of rs) places sizes roots
  pub others : other ≡ some_pair is_other_root (legs_of rs)

pub all_read : (rs : List RawLeg) {i : ℕ} {places sizes roots : List ℕ} {known : Option ℕ} {other bad : Bool} → AreRead rs i places sizes roots known other bad → length rs ≤ i → i ≤ length rs → AllRead rs places sizes roots other bad
unfolding any legs_of
all_read rs {i} {places} {sizes} {roots} {known} {other} {bad} a h k =
    let m : length (legs_of rs) ≡ i = length-map rs leg_of ∙ omega arith in
    let whole : take i rs ≡ rs = take_all i rs h in
    record {
      symbols = sym a.symbols ∙ at_drop_all (any is_bad_symbol) rs i h;
      counts = sym a.counts ∙ rw (at_drop_all (any is_bad_count) rs i h) (or_false bad);
      placed = record {
        each_tag = rw (m, map-map (tag_of false) leg_of rs) (rw whole at a.each_tag);
        each_size = rw (m, map-map (λ (x : Leg). x.size) leg_of rs) (rw whole at a.each_size);
        each_root = rw (m, map-map (λ (x : Leg). x.root) leg_of rs) (rw whole at a.each_root);
      };
      others = sym (or_false other) ∙ rw (at_drop_all (any (λ r. is_other_root (leg_of (get_or rs 0 no_raw_leg)) (leg_of r))) rs i h) at a.others ∙ differ rs;
    }

-- a leg without a tag, or with one
pub untagged : (o : Option ℕ) {x : Refusal} (e : Refusal) → Err x ≡ ok_or o e → (x ≡ e) × (unwrap_or o 0 ≡ 0)
untagged o {x} e h = go o h
  where
    go : (o : Option ℕ) → Err x ≡ ok_or o e → (x ≡ e) × (unwrap_or o 0 ≡ 0)
    go None h = (cc, refl)
    go (Some t) h = cc

pub tagged : (o : Option ℕ) {t : ℕ} (e : Refusal) → Ok t ≡ ok_or o e → o ≡ Some t
tagged o {t} e h = go o h
  where
    go : (o : Option ℕ) → Ok t ≡ ok_or o e → o ≡ Some t
    go None h = cc
    go (Some u) h = cc
