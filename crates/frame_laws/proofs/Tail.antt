-- The fields behind field 35, read one by one: where the tail is right, and where field 10 stands.
-- By induction over the fields, from any tail that has not ended.
use mathlib.Core.Path.{◌≡◌, refl, sym, ap, subst, ◌∙◌}
use mathlib.Core.Bool.{Bool, true, false, not, ◌&&◌, ◌||◌, true≢false, or-true}
use mathlib.Core.List.{List, [], ◌∷◌, ◌++◌}
use Prim.Native.Nat.{ℕ, ◌+◌}
use native.Mathlib.Omega.{arith}
use lib.Dec.{eqb}
use lib.ListN.{length, length-append}
use Rattle.rules.specs.Lists.{all}
use Rattle.rules.specs.Numerals.{value}
use Rattle.rules.specs.Fix.{bytes_of, leading_digits, tag_of, all_but_last, last_of, is_frame_tag}
use Rattle.rules.proofs.Tests.{and_no, and_true}
use Rattle.fields.specs.Fields.{placed_at}
use Rattle.std.specs.Prelude.{Some, is_some}
use Rattle.frame.specs.declared.Closing.{Closing}
use Rattle.frame.specs.declared.Tail.{Tail}
use Rattle.frame.specs.Frame.{no_tail}
use Rattle.frame.proofs.Laws.{strayed, found, continued, step_behind, step_found, step_continued}
use Rattle.frame_laws.specs.Runs.{run_tail}

-- the place behind the field `f` that stands at `at`
abbrev behind : ℕ → List ℕ → ℕ
behind at f = at + length f + 1

-- ---- one field more

module _ (at : ℕ) (t : Tail) (f : List ℕ) (fs : List (List ℕ)) where
  run_behind : is_some t.closing ≡ true → run_tail at t (f ∷ fs) ≡ run_tail (behind at f) (strayed t) fs
  unfolding run_tail
  run_behind h = rw (step_behind t at (placed_at at f) h)

  run_found : is_some t.closing ≡ false → eqb (tag_of f) 10 ≡ true → run_tail at t (f ∷ fs) ≡ run_tail (behind at f) (found t at (placed_at at f)) fs
  unfolding run_tail
  run_found h k = rw (step_found t at (placed_at at f) h k)

  run_continued : is_some t.closing ≡ false → eqb (tag_of f) 10 ≡ false → run_tail at t (f ∷ fs) ≡ run_tail (behind at f) (continued t (placed_at at f)) fs
  unfolding run_tail
  run_continued h k = rw (step_continued t at (placed_at at f) h k)

-- a field behind field 10 is out of place, whatever comes then
behind_stray : (at : ℕ) (t : Tail) (f : List ℕ) (fs : List (List ℕ)) → is_some t.closing ≡ true → (run_tail at t (f ∷ fs)).stray ≡ true
unfolding run_tail
behind_stray at t f [] h = ap (λ (u : Tail). u.stray) (run_behind at t f [] h)
behind_stray at t f (g ∷ fs) h = ap (λ (u : Tail). u.stray) (run_behind at t f (g ∷ fs) h) ∙ behind_stray (behind at f) (strayed t) g fs h

-- ---- where it is right

-- a tail as it is read, and the fields that it is read from
abbrev pub right_tail : Tail → Bool
right_tail t = is_some t.closing && not t.stray

abbrev pub right_fields : List (List ℕ) → Bool
right_fields fs = all (λ f. not (is_frame_tag (tag_of f))) (all_but_last fs) && eqb (tag_of (last_of fs)) 10

-- the tests of one field more: field 10 is the last, any other is tested where it stands
module _ (s a b c : Bool) (x y : Bool) where
  not_last : {d : Bool} → d ≡ true → not s && (not (a || b || c || d) && x && y) ≡ false
  not_last e = rw (e, or-true (a || b || c), and_no (not s))

  tested : {d : Bool} → d ≡ false → not (s || (a || (b || c))) && (x && y) ≡ not s && (not (a || b || c || d) && x && y)
  tested e = rw e (go s a b c)
    where
      go : (s a b c : Bool) → not (s || (a || (b || c))) && (x && y) ≡ not s && (not (a || b || c || false) && x && y)
      go true a b c = refl
      go false true b c = refl
      go false false true c = refl
      go false false false true = refl
      go false false false false = refl

-- from any tail that field 10 has not ended
right_from : (at : ℕ) (t : Tail) (fs : List (List ℕ)) → is_some t.closing ≡ false → right_tail (run_tail at t fs) ≡ not t.stray && right_fields fs
unfolding run_tail all all_but_last last_of tag_of leading_digits value
right_from at t [] h = rw h (sym (and_no (not t.stray)))
right_from at t (f ∷ []) h = go (eqb (tag_of f) 10) refl
  where
    go : (b : Bool) → eqb (tag_of f) 10 ≡ b → right_tail (run_tail at t (f ∷ [])) ≡ not t.stray && b
    go true e = ap right_tail (run_found at t f [] h e) ∙ sym (and_true (not t.stray))
    go false e = ap right_tail (run_continued at t f [] h e) ∙ rw h (sym (and_no (not t.stray)))
right_from at t (f ∷ g ∷ fs) h = go (eqb (tag_of f) 10) refl (right_from (behind at f) (continued t (placed_at at f)) (g ∷ fs) h)
  where
    go : (b : Bool) → eqb (tag_of f) 10 ≡ b → right_tail (run_tail (behind at f) (continued t (placed_at at f)) (g ∷ fs)) ≡ not (continued t (placed_at at f)).stray && right_fields (g ∷ fs)
        → right_tail (run_tail at t (f ∷ g ∷ fs)) ≡ not t.stray && right_fields (f ∷ g ∷ fs)
    go true e k =
        let u = run_tail (behind at f) (found t at (placed_at at f)) (g ∷ fs) in
        ap right_tail (run_found at t f (g ∷ fs) h e)
        ∙ ap (λ (b : Bool). is_some u.closing && not b) (behind_stray (behind at f) (found t at (placed_at at f)) g fs refl)
        ∙ and_no (is_some u.closing)
        ∙ sym (not_last t.stray (eqb (tag_of f) 8) (eqb (tag_of f) 9) (eqb (tag_of f) 35) _ _ e)
    go false e k = ap right_tail (run_continued at t f (g ∷ fs) h e) ∙ k ∙ tested t.stray (eqb (tag_of f) 8) (eqb (tag_of f) 9) (eqb (tag_of f) 35) _ _ e

-- the tail is right exactly where the last field has tag 10 and no field before it is the frame's
pub tail_right : (at : ℕ) (rest : List (List ℕ)) → right_tail (run_tail at no_tail rest) ≡ right_fields rest
tail_right at rest = right_from at no_tail rest refl

-- ---- where field 10 stands

-- field 10 with the bytes `f`, at a place
abbrev pub closing_at : ℕ → List ℕ → Closing
closing_at at f = record { at = at; value = record { start = at + (leading_digits f + 1); end = at + length f } }

-- field 10 is the last field: its place, those of its value, and the fields before it
abbrev pub Placed : ℕ → List (List ℕ) → Tail → Type 0
Placed at fs t = (t.closing ≡ Some (closing_at (at + length (bytes_of (all_but_last fs))) (last_of fs))) × (fs ≡ all_but_last fs ++ (last_of fs ∷ []))

-- one field more in front
placed_more : (at : ℕ) (f g : List ℕ) (fs : List (List ℕ)) (t : Tail) → Placed (behind at f) (g ∷ fs) t → Placed at (f ∷ g ∷ fs) t
unfolding bytes_of all_but_last last_of
placed_more at f g fs t p =
    let e : behind at f + length (bytes_of (all_but_last (g ∷ fs))) ≡ at + length (f ++ (1 ∷ bytes_of (all_but_last (g ∷ fs)))) = omega (arith, length-append f (1 ∷ bytes_of (all_but_last (g ∷ fs)))) in
    (p.0 ∙ ap (λ (a : ℕ). Some (closing_at a (last_of (g ∷ fs)))) e, ap (λ (r : List (List ℕ)). f ∷ r) p.1)

-- from any tail that field 10 has not ended
places_from : (at : ℕ) (t : Tail) (fs : List (List ℕ)) → is_some t.closing ≡ false → is_some (run_tail at t fs).closing ≡ true → (run_tail at t fs).stray ≡ false → Placed at fs (run_tail at t fs)
unfolding run_tail bytes_of all_but_last last_of
places_from at t [] h e s = absurd (true≢false (sym e ∙ h))
places_from at t (f ∷ []) h e s = go (eqb (tag_of f) 10) refl
  where
    go : (b : Bool) → eqb (tag_of f) 10 ≡ b → Placed at (f ∷ []) (run_tail at t (f ∷ []))
    go true k = let z : at ≡ at + 0 = omega arith in rw (step_found t at (placed_at at f) h k) (ap (λ (a : ℕ). Some (closing_at a f)) z, refl)
    go false k = absurd (true≢false (sym e ∙ ap (λ (u : Tail). is_some u.closing) (step_continued t at (placed_at at f) h k) ∙ h))
places_from at t (f ∷ g ∷ fs) h e s = go (eqb (tag_of f) 10) refl (places_from (behind at f) (continued t (placed_at at f)) (g ∷ fs) h)
  where
    go : (b : Bool) → eqb (tag_of f) 10 ≡ b
        → let v = run_tail (behind at f) (continued t (placed_at at f)) (g ∷ fs) in (is_some v.closing ≡ true → v.stray ≡ false → Placed (behind at f) (g ∷ fs) v) → Placed at (f ∷ g ∷ fs) (run_tail at t (f ∷ g ∷ fs))
    go true k r =
        let stray = ap (λ (v : Tail). v.stray) (run_found at t f (g ∷ fs) h k) ∙ behind_stray (behind at f) (found t at (placed_at at f)) g fs refl in
        absurd (true≢false (sym stray ∙ s))
    go false k r =
        let q = run_continued at t f (g ∷ fs) h k in
        let p = r (sym (ap (λ (v : Tail). is_some v.closing) q) ∙ e) (sym (ap (λ (v : Tail). v.stray) q) ∙ s) in
        subst (Placed at (f ∷ g ∷ fs)) (sym q) (placed_more at f g fs (run_tail (behind at f) (continued t (placed_at at f)) (g ∷ fs)) p)

-- and then it has the place of that field and those of its value
pub tail_places : (at : ℕ) (rest : List (List ℕ)) → let t = run_tail at no_tail rest in is_some t.closing ≡ true → t.stray ≡ false → Placed at rest t
tail_places at rest = places_from at no_tail rest refl
