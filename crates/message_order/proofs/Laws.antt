-- The groups of a message, one after the other, as a loop reads them.
use mathlib.Core.Path.{◌≡◌, refl, sym, ap, ◌∙◌}
use mathlib.Core.List.{List, [], ◌∷◌, ◌++◌, map, append-nil}
use mathlib.Core.Bool.{true}
use Prim.Native.Nat.{ℕ, suc, ◌+◌, ◌-◌, ◌*◌, ◌<◌, ◌≤◌}
use native.Mathlib.Omega.{arith}
use native.Mathlib.Numerals.{add-one}
use lib.ListN.{length, take, drop, set, length-map, length-take}
use lib.Seq.{take-suc-set, append_snoc}
use borrow.Author.Tests.{eqb-true}
use Rattle.rules.specs.declared.RawLeg.{RawLeg}
use Rattle.rules.specs.Lists.{all}
use Rattle.rules.specs.Fix.{fields_of, is_field, tag_of, value_of, has_form, is_formed, is_number, group_tags, legs_said}
use Rattle.rules.proofs.Tests.{and_both}
use Rattle.std.specs.Prelude.{Some}
use Rattle.std.specs.Option.{IsSome}
use Rattle.fields.specs.declared.Field.{Field}
use Rattle.fields.specs.Fields.{placed_at, field_at, Inside, value_in}
use Rattle.fields.proofs.Laws.{inside_at, stands, value_at_lem, behind_at}
use Rattle.message_order.specs.Groups.{groups_at, HasGroups, IsGroup, leg_of_fields}

-- a field that was read where a field stands
record Stepped (m f : List ℕ) (fs : List (List ℕ)) (r : Field) : Type 0 where
  value : value_in m r ≡ value_of f
  inside : Inside (length m) r.value
  behind : fields_of (drop r.next m) ≡ fs

module _ (m : List ℕ) (at : ℕ) {f : List ℕ} {fs : List (List ℕ)} (are : fields_of (drop at m) ≡ f ∷ fs) (h : is_field f ≡ true) where
  there : IsSome (field_at m at)
  there = rw (stands m at f fs are h)

  step : {r : Field} → field_at m at ≡ Some r → Stepped m f fs r
  step {r} e =
      let p : r ≡ placed_at at f = cc (stands m at f fs are h) in
      record { value = rw p (value_at_lem m at f fs are); inside = rw p (inside_at m at f fs are h); behind = rw p (behind_at m at f fs are).0 }

-- a group, and `k` groups behind it, among fields
record Group (k : ℕ) (all_fields : List (List ℕ)) : Type 0 where
  symbol : List ℕ
  ratio : List ℕ
  side : List ℕ
  rest : List (List ℕ)
  are : all_fields ≡ symbol ∷ ratio ∷ side ∷ rest
  is_symbol_lem : is_field symbol ≡ true
  is_ratio : is_field ratio ≡ true
  is_side : is_field side ≡ true
  whole : length (value_of symbol) ≡ 21
  number : is_number (value_of ratio) ≡ true
  fields : all is_field (take (3 * k) rest) ≡ true
  formed : all is_formed (take (3 * k) rest) ≡ true
  tags : map tag_of (take (3 * k) rest) ≡ group_tags k

three_more : (k : ℕ) → 3 * suc k ≡ suc (suc (suc (3 * k)))
three_more k = omega arith

-- fields with the tags of a group are three at least
few : (k : ℕ) (fs : List (List ℕ)) → map tag_of (take (3 * suc k) fs) ≡ group_tags (suc k) → length fs < 3 → ⊥
unfolding group_tags
few k fs t h = omega (arith, ap length t, length-map (take (3 * suc k) fs) tag_of, length-take (3 * suc k) fs)

-- of fields that begin with groups, the first group, and that groups are behind it
first_group : (k : ℕ) (fs : List (List ℕ)) → all is_field (take (3 * suc k) fs) ≡ true → all is_formed (take (3 * suc k) fs) ≡ true → map tag_of (take (3 * suc k) fs) ≡ group_tags (suc k) → Group k fs
unfolding all group_tags has_form
first_group k [] a b t = absurd (few k [] t (omega arith))
first_group k (f ∷ []) a b t = absurd (few k (f ∷ []) t (omega arith))
first_group k (f ∷ g ∷ []) a b t = absurd (few k (f ∷ g ∷ []) t (omega arith))
first_group k (f ∷ g ∷ h ∷ fs) a b t =
    let a₁ = and_both (is_field f) _ (rw (three_more k) at a) in
    let a₂ = and_both (is_field g) _ a₁.1 in
    let a₃ = and_both (is_field h) _ a₂.1 in
    let b₁ = and_both (is_formed f) _ (rw (three_more k) at b) in
    let b₂ = and_both (is_formed g) _ b₁.1 in
    let b₃ = and_both (is_formed h) _ b₂.1 in
    let t₃ = rw (three_more k) at t in
    let tf : tag_of f ≡ 600 = cc in
    let tg : tag_of g ≡ 623 = cc in
    record {
      symbol = f;
      ratio = g;
      side = h;
      rest = fs;
      are = refl;
      is_symbol_lem = a₁.0;
      is_ratio = a₂.0;
      is_side = a₃.0;
      whole = eqb-true _ 21 (rw tf at b₁.0);
      number = rw tg at b₂.0;
      fields = a₃.1;
      formed = b₃.1;
      tags = cc;
    }

-- what the loop reads of a group
module _ {m : List ℕ} {at k : ℕ} (h : HasGroups m at (suc k)) where
  group : Group k (fields_of (drop at m))
  group = first_group k (fields_of (drop at m)) h.fields h.formed h.tags

  pub symbol_there : IsSome (field_at m at)
  symbol_there = there m at group.are group.is_symbol_lem

  module _ {s : Field} (es : field_at m at ≡ Some s) where
    symbol_read : Stepped m group.symbol (group.ratio ∷ group.side ∷ group.rest) s
    symbol_read = step m at group.are group.is_symbol_lem es

    pub ratio_there : IsSome (field_at m s.next)
    ratio_there = there m s.next symbol_read.behind group.is_ratio

    module _ {r : Field} (er : field_at m s.next ≡ Some r) where
      ratio_read : Stepped m group.ratio (group.side ∷ group.rest) r
      ratio_read = step m s.next symbol_read.behind group.is_ratio er

      pub side_there : IsSome (field_at m r.next)
      side_there = there m r.next ratio_read.behind group.is_side

      module _ {d : Field} (ed : field_at m r.next ≡ Some d) where
        side_read : Stepped m group.side group.rest d
        side_read = step m r.next ratio_read.behind group.is_side ed

        pub is_group_lem : IsGroup m s r d
        is_group_lem =
            record {
              symbol_inside = symbol_read.inside;
              ratio_inside = ratio_read.inside;
              side_inside = side_read.inside;
              whole = rw symbol_read.value group.whole;
              number = rw ratio_read.value group.number;
            }

        pub groups_behind : HasGroups m d.next k
        groups_behind = record { fields = rw side_read.behind group.fields; formed = rw side_read.behind group.formed; tags = rw side_read.behind group.tags }

        pub said : legs_said (groups_at m at (suc k)) ≡ leg_of_fields m s r d ∷ legs_said (groups_at m d.next k)
        unfolding legs_said
        said = rw (group.are, three_more k, symbol_read.value, ratio_read.value, side_read.value, side_read.behind)

-- of `n` groups, those from the group `i` on: one, and those behind it
pub one_more : (n i : ℕ) → i < n → n - i ≡ suc (n - (i + 1))
one_more n i h = omega arith

-- one leg more is stored
pub stored : (legs rest : List RawLeg) {x l : RawLeg} {all : List RawLeg} (i : ℕ) → i < length legs → x ≡ l → take i legs ++ (l ∷ rest) ≡ all → take (i + 1) (set legs i x) ++ rest ≡ all
stored legs rest {x} i h e f =
    let t : take (i + 1) (set legs i x) ≡ take i legs ++ (x ∷ []) = rw (add-one, take-suc-set legs i x h) in
    rw (t, append_snoc (take i legs), e) f

-- none are left
pub all_stored : (m : List ℕ) (at n i : ℕ) (legs : List RawLeg) {all : List RawLeg} → n ≤ i → take i legs ++ legs_said (groups_at m at (n - i)) ≡ all → take i legs ≡ all
unfolding legs_said
all_stored m at n i legs h f = let e : n - i ≡ 0 = omega arith in sym (append-nil (take i legs)) ∙ rw e at f
