-- Two groups exchanged among the fields of a message: what does not look at their sequence stays, and so do tags, other values and the frame.
use mathlib.Core.Path.{◌≡◌, refl, sym, ap, ◌∙◌, subst₂}
use mathlib.Core.List.{List, [], ◌∷◌, ◌++◌, map}
use mathlib.Core.Bool.{Bool, true, false, cond, not, ◌&&◌, or-true}
use Prim.Native.Nat.{ℕ, ◌+◌}
use native.Mathlib.Omega.{arith}
use lib.Dec.{eqb}
use lib.ListN.{length, length-append, drop}
use Rattle.rules.specs.Lists.{all, any, total}
use Rattle.rules.specs.Numerals.{value, numeral}
use Rattle.rules.specs.Fix.{bytes_of, leading_digits, tag_of, value_of, all_but_last, last_of, is_frame_tag, is_framed, has_frame, how_often, before, value_at, behind, digits_for}
use Rattle.rules.proofs.Tests.{and_no}
use Rattle.field_laws.proofs.Fields.{bytes_append}
use Rattle.message_theorems.specs.Groups.{Group, fields_in}
use Rattle.laws.proofs.Lists.{all_joined, fails, total_append}
use Rattle.message_theorems.proofs.Laws.{is_of_group, last_behind, others_before}

-- a group, fields between, another group, and fields behind it
abbrev pub apart : Group → List (List ℕ) → Group → List (List ℕ) → List (List ℕ)
apart x mid y fs = fields_in x ++ (mid ++ (fields_in y ++ fs))

-- two lists of fields, alike but for two groups that change places
pub data Exchanged : List (List ℕ) → List (List ℕ) → Type 0 where
  here : (x y : Group) (mid fs : List (List ℕ)) → Exchanged (apart x mid y fs) (apart y mid x fs)
  there : (f : List ℕ) {fs gs : List (List ℕ)} → Exchanged fs gs → Exchanged (f ∷ fs) (f ∷ gs)

-- ---- what does not look at the sequence of the fields

-- a measure of bytes that adds up: their number, and their sum
module _ (w : List ℕ → ℕ) (adds : (a b : List ℕ) → w (a ++ b) ≡ w a + w b) where
  measure_joined : (fs gs : List (List ℕ)) → w (bytes_of (fs ++ gs)) ≡ w (bytes_of fs) + w (bytes_of gs)
  measure_joined fs gs = ap w (bytes_append fs gs) ∙ adds (bytes_of fs) (bytes_of gs)

  pub measure_kept : {fs gs : List (List ℕ)} → Exchanged fs gs → w (bytes_of fs) ≡ w (bytes_of gs)
  measure_kept (here x y mid fs) = omega (arith, parts x y, parts y x)
    where
      parts : (a b : Group) → w (bytes_of (apart a mid b fs)) ≡ w (bytes_of (fields_in a)) + (w (bytes_of mid) + (w (bytes_of (fields_in b)) + w (bytes_of fs)))
      parts a b = omega (arith, measure_joined (fields_in a) (mid ++ (fields_in b ++ fs)), measure_joined mid (fields_in b ++ fs), measure_joined (fields_in b) fs)
  measure_kept (there f {fs} {gs} e) = omega (arith, measure_joined (f ∷ []) fs, measure_joined (f ∷ []) gs, measure_kept e)

pub all_kept : (p : List ℕ → Bool) {fs gs : List (List ℕ)} → Exchanged fs gs → all p fs ≡ all p gs
unfolding all
all_kept p (here x y mid fs) = parts x y ∙ turn (all p (fields_in x)) (all p mid) (all p (fields_in y)) (all p fs) ∙ sym (parts y x)
  where
    parts : (a b : Group) → all p (apart a mid b fs) ≡ all p (fields_in a) && (all p mid && (all p (fields_in b) && all p fs))
    parts a b =
        all_joined p (fields_in a) (mid ++ (fields_in b ++ fs))
        ∙ ap (λ c. all p (fields_in a) && c) (all_joined p mid (fields_in b ++ fs) ∙ ap (λ c. all p mid && c) (all_joined p (fields_in b) fs))

    turn : (a m b c : Bool) → a && (m && (b && c)) ≡ b && (m && (a && c))
    turn true m true c = refl
    turn true m false c = and_no m
    turn false m true c = sym (and_no m)
    turn false m false c = refl
all_kept p (there f e) = ap (λ b. p f && b) (all_kept p e)

-- ---- tags

-- what goes along the fields, and sees a group's tags alone
module _ {B : Type 0} (k : List (List ℕ) → B)
    (step : (f : List ℕ) (fs gs : List (List ℕ)) → k fs ≡ k gs → k (f ∷ fs) ≡ k (f ∷ gs))
    (group : (x y : Group) (fs gs : List (List ℕ)) → k fs ≡ k gs → k (fields_in x ++ fs) ≡ k (fields_in y ++ gs)) where
  past : (mid fs gs : List (List ℕ)) → k fs ≡ k gs → k (mid ++ fs) ≡ k (mid ++ gs)
  past [] fs gs h = h
  past (f ∷ mid) fs gs h = step f _ _ (past mid fs gs h)

  kept : {fs gs : List (List ℕ)} → Exchanged fs gs → k fs ≡ k gs
  kept (here x y mid fs) = group x y _ _ (past mid _ _ (group y x fs fs refl))
  kept (there f e) = step f _ _ (kept e)

pub tags_kept : {fs gs : List (List ℕ)} → Exchanged fs gs → map tag_of fs ≡ map tag_of gs
unfolding tag_of leading_digits value numeral digits_for
tags_kept = kept (map tag_of) (λ f fs gs. ap (λ l. tag_of f ∷ l)) (λ x y fs gs. ap (λ l. 600 ∷ 623 ∷ 624 ∷ l))

pub often_kept : (t : ℕ) {fs gs : List (List ℕ)} → Exchanged fs gs → how_often t fs ≡ how_often t gs
unfolding how_often tag_of leading_digits value numeral digits_for
often_kept t = kept (how_often t) (λ f fs gs h. rw h) (λ x y fs gs h. rw h)

-- where a tag that is no group's stands: behind the exchange, or before it
pub data Parted (t : ℕ) (fs gs : List (List ℕ)) : Type 0 where
  later : any is_of_group (before t fs) ≡ true → any is_of_group (before t gs) ≡ true → Parted t fs gs
  sooner : before t fs ≡ before t gs → Exchanged (behind t fs) (behind t gs) → Parted t fs gs

module _ (t : ℕ) (a : eqb 600 t ≡ false) (b : eqb 623 t ≡ false) (c : eqb 624 t ≡ false) where
  pub value_kept : {fs gs : List (List ℕ)} → Exchanged fs gs → value_at t fs ≡ value_at t gs
  unfolding value_at tag_of leading_digits value numeral digits_for
  value_kept = kept (value_at t) (λ f fs gs. ap (cond (eqb (tag_of f) t) (value_of f))) (λ x y fs gs h. rw (a, b, c) h)

  pub parted : {fs gs : List (List ℕ)} → Exchanged fs gs → Parted t fs gs
  unfolding before behind any tag_of leading_digits value numeral digits_for
  parted (here x y mid fs) = later (rw a) (rw a)
  parted (there f {fs} {gs} e) = go (eqb (tag_of f) t) refl (parted e)
    where
      go : (b : Bool) → eqb (tag_of f) t ≡ b → Parted t fs gs → Parted t (f ∷ fs) (f ∷ gs)
      go true h p = sooner (rw h) (rw h e)
      go false h (later k l) = later (rw (h, k) (or-true (is_of_group f))) (rw (h, l) (or-true (is_of_group f)))
      go false h (sooner k l) = sooner (rw h (ap (λ r. f ∷ r) k)) (rw h l)

-- ---- the frame

-- the last field: one of the exchanged, or a field behind them
data Last (fs gs : List (List ℕ)) : Type 0 where
  among : tag_of (last_of fs) ≡ 624 → tag_of (last_of gs) ≡ 624 → Last fs gs
  beyond : last_of fs ≡ last_of gs → Exchanged (all_but_last fs) (all_but_last gs) → Last fs gs

-- a field before an exchange is not the last
abbrev Longer : List ℕ → List (List ℕ) → List (List ℕ) → Type 0
Longer f fs gs = (last_of (f ∷ fs) ≡ last_of fs) × (last_of (f ∷ gs) ≡ last_of gs) × (all_but_last (f ∷ fs) ≡ f ∷ all_but_last fs) × (all_but_last (f ∷ gs) ≡ f ∷ all_but_last gs)

longer : (f : List ℕ) {fs gs : List (List ℕ)} → Exchanged fs gs → Longer f fs gs
unfolding last_of all_but_last
longer f (here x y mid fs) = (refl, refl, refl, refl)
longer f (there g e) = (refl, refl, refl, refl)

last : {fs gs : List (List ℕ)} → Exchanged fs gs → Last fs gs
unfolding last_of all_but_last tag_of leading_digits value numeral digits_for
last (here x y mid []) = among (ap tag_of (last_behind (fields_in x ++ mid) _ _)) (ap tag_of (last_behind (fields_in y ++ mid) _ _))
last (here x y mid (f ∷ fs)) =
    beyond
    (last_behind (fields_in x ++ mid) _ _ ∙ sym (last_behind (fields_in y ++ mid) _ _))
    (subst₂ Exchanged (sym (others_before (fields_in x ++ mid) _ _)) (sym (others_before (fields_in y ++ mid) _ _)) (here x y mid (all_but_last (f ∷ fs))))
last (there f {fs} {gs} e) = go (longer f e) (last e)
  where
    go : Longer f fs gs → Last fs gs → Last (f ∷ fs) (f ∷ gs)
    go (p, q, r, s) (among h k) = among (ap tag_of p ∙ h) (ap tag_of q ∙ k)
    go (p, q, r, s) (beyond h k) = beyond (p ∙ h ∙ sym q) (subst₂ Exchanged (sym r) (sym s) (there f k))

-- the frame is wrong in both, or it is the same and the exchange is in the body
pub data Frames (fs gs : List (List ℕ)) : Type 0 where
  wrong : has_frame fs ≡ false → has_frame gs ≡ false → Frames fs gs
  alike : has_frame fs ≡ has_frame gs → Exchanged (all_but_last (drop 3 fs)) (all_but_last (drop 3 gs)) → Frames fs gs

module _ (f g h : List ℕ) (fs : List (List ℕ)) where
  -- the last is the same
  same_frame : (gs : List (List ℕ)) → last_of fs ≡ last_of gs → Exchanged (all_but_last fs) (all_but_last gs) → is_framed f g h fs ≡ is_framed f g h gs
  unfolding is_framed
  same_frame gs p e =
      rw (
        measure_kept length length-append (there h e),
        measure_kept total total_append (there f (there g (there h e))),
        all_kept (λ d. not (is_frame_tag (tag_of d))) e,
        p,
      )

  no_frame : tag_of (last_of fs) ≡ 624 → is_framed f g h fs ≡ false
  unfolding is_framed
  no_frame p = rw p (fails (_ ∷ _ ∷ _ ∷ _ ∷ _ ∷ _ ∷ []) [])

pub frames : {fs gs : List (List ℕ)} → Exchanged fs gs → Frames fs gs
unfolding has_frame is_framed tag_of leading_digits value numeral digits_for
frames (here x y mid fs) = wrong (fails [] _) (fails [] _)
frames (there f (here x y mid fs)) = wrong (fails (_ ∷ []) _) (fails (_ ∷ []) _)
frames (there f (there g (here x y mid fs))) = wrong (fails (_ ∷ _ ∷ _ ∷ _ ∷ []) _) (fails (_ ∷ _ ∷ _ ∷ _ ∷ []) _)
frames (there f (there g (there h {fs} {gs} e))) = go (last e)
  where
    go : Last fs gs → Frames (f ∷ g ∷ h ∷ fs) (f ∷ g ∷ h ∷ gs)
    go (among p q) = wrong (no_frame f g h fs p) (no_frame f g h gs q)
    go (beyond p q) = alike (same_frame f g h fs gs p q) q
