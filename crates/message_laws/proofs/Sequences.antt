-- The sequence of the needed tags, one field after the other, is the definition's.
-- What the fields that are left must be is said for every state; a step of the state leaves it as it was.
use mathlib.Core.Path.{◌≡◌, refl, sym, ap, ◌∙◌}
use mathlib.Core.List.{List, [], ◌∷◌, ◌++◌, map}
use mathlib.Core.Bool.{Bool, true, false, cond, not, ◌&&◌, ◌||◌, or-true, true≢false}
use Prim.Native.Nat.{ℕ, zero, suc, ◌-◌, ◌*◌, ◌%◌}
use native.Mathlib.Omega.{arith}
use lib.ListN.{take, drop}
use lib.Dec.{eqb, eqb-suc-zero, eqb-suc-suc}
use borrow.Author.Tests.{eqb-true}
use Rattle.rules.specs.Lists.{any, every, same_numbers}
use Rattle.rules.specs.Fix.{tag_of, value_of, how_often, before, value_at, behind, number_said, leg_number, group_fields, behind_groups, group_tags, is_group_tag, in_sequence}
use Rattle.rules.proofs.Tests.{and_no, and_true, or_false}
use Rattle.groups.specs.declared.Sequence.{Sequence}
use Rattle.groups.specs.Sequence.{none_seen, due_tag, outside, among, sequence_step, is_complete}
use Rattle.groups.proofs.Laws.{further_outside}
use Rattle.message_laws.specs.Runs.{run_tags}

-- ---- the tags that are due

-- a test that is the same of all three tags of a group
of_due : (f : ℕ → Bool) (b : Bool) → f 600 ≡ b → f 623 ≡ b → f 624 ≡ b → (n : ℕ) → f (due_tag n) ≡ b
unfolding due_tag
of_due f b e600 e623 e624 n = go (eqb (n % 3) 0) (eqb (n % 3) 2)
  where
    go : (x y : Bool) → f (cond x 600 (cond y 623 624)) ≡ b
    go true y = e600
    go false true = e623
    go false false = e624

-- the tags of so many fields
abbrev due_tags : ℕ → List ℕ
due_tags zero = []
due_tags (suc n) = due_tag (suc n) ∷ due_tags n

due_groups : (n : ℕ) → due_tags (3 * n) ≡ group_tags n
unfolding due_tag group_tags
due_groups zero = refl
due_groups (suc n) =
    let e : 3 * suc n ≡ suc (suc (suc (3 * n))) = omega arith in
    let e3 : suc (suc (suc (3 * n))) % 3 ≡ 0 = omega arith in
    let e2 : suc (suc (3 * n)) % 3 ≡ 2 = omega arith in
    let e1 : suc (3 * n) % 3 ≡ 1 = omega arith in
    rw (e, e3, e2, e1, due_groups n)

-- ---- what the fields that are left must be

abbrev is_group : List ℕ → Bool
is_group f = is_group_tag (tag_of f)

-- a needed tag that was there, or not, comes no more, or once
abbrev once : Bool → ℕ → Bool
once true more = eqb more 0
once false more = eqb more 1

-- of 555 and the groups: behind 555, where so many fields of the groups are left; and before it
abbrev rest_of : Bool → ℕ → List (List ℕ) → Bool
rest_of true left fs = eqb (how_often 555 fs) 0 && (same_numbers (map tag_of (take left fs)) (due_tags left) && not (any is_group (drop left fs)))
rest_of false left fs =
    eqb (how_often 555 fs) 1
    && (same_numbers (map tag_of (group_fields fs)) (group_tags (leg_number fs)) && (not (any is_group (before 555 fs)) && not (any is_group (behind_groups fs))))

abbrev expected : Sequence → List (List ℕ) → Bool
expected q fs = not q.wrong && (once q.kind (how_often 40 fs) && (once q.price (how_often 44 fs) && rest_of q.legs q.left fs))

-- a needed tag comes, or another
once_step : (k a : Bool) (n : ℕ) → once k (cond a (suc n) n) ≡ not (k && a) && once (k || a) n
once_step true true n = eqb-suc-zero n
once_step true false n = refl
once_step false true n = eqb-suc-suc n 0
once_step false false n = refl

-- ---- a field outside the groups

abbrev legs_in : List ℕ → ℕ
legs_in f = cond (eqb (tag_of f) 555) (number_said (value_of f)) 0

-- 555: what it says of the groups holds from here on
rest_555 : (l : Bool) (f : List ℕ) (fs : List (List ℕ)) → tag_of f ≡ 555 → rest_of l 0 (f ∷ fs) ≡ not (l || is_group f) && rest_of true (3 * number_said (value_of f)) fs
unfolding how_often value_at behind before any
rest_555 true f fs e = rw (e, eqb-suc-zero)
rest_555 false f fs e = rw (e, eqb-suc-suc, due_groups)

-- another tag: it must be none of a group
rest_other : (l : Bool) (f : List ℕ) (fs : List (List ℕ)) → eqb (tag_of f) 555 ≡ false → rest_of l 0 (f ∷ fs) ≡ not (is_group f) && rest_of l 0 fs
unfolding how_often value_at behind before any
rest_other l f fs e = go l (is_group f) refl
  where
    go : (l g : Bool) → is_group f ≡ g → rest_of l 0 (f ∷ fs) ≡ not g && rest_of l 0 fs
    go true true h = rw (e, h) (simp and_no)
    go true false h = rw (e, h)
    go false true h = rw (e, h) (simp and_no)
    go false false h = rw (e, h)

rest_outside : (l : Bool) (f : List ℕ) (fs : List (List ℕ))
    → rest_of l 0 (f ∷ fs) ≡ not ((l && eqb (tag_of f) 555) || is_group f) && rest_of (l || eqb (tag_of f) 555) (cond (eqb (tag_of f) 555) (3 * legs_in f) 0) fs
rest_outside l f fs = go l (eqb (tag_of f) 555) refl
  where
    go : (l c : Bool) → eqb (tag_of f) 555 ≡ c → rest_of l 0 (f ∷ fs) ≡ not ((l && c) || is_group f) && rest_of (l || c) (cond c (3 * cond c (number_said (value_of f)) 0) 0) fs
    go true true e = rest_555 true f fs (eqb-true (tag_of f) 555 e)
    go false true e = rest_555 false f fs (eqb-true (tag_of f) 555 e)
    go true false e = rest_other true f fs e
    go false false e = rest_other false f fs e

-- the ways of being wrong beside the tests, and each before its own test
gathered : (w x y z a b c : Bool) → not (w || (x || (y || z))) && (a && (b && c)) ≡ not w && ((not x && a) && ((not y && b) && (not z && c)))
gathered true x y z a b c = refl
gathered false true y z a b c = refl
gathered false false true z a b c = sym (and_no a)
gathered false false false true a b c = rw (and_no b) (sym (and_no a))
gathered false false false false a b c = refl

-- a state by its parts
abbrev seen : Bool → Bool → Bool → ℕ → Bool → Sequence
seen k p l n w = record { kind = k; price = p; legs = l; left = n; wrong = w }

outside_step : (k p l w : Bool) (f : List ℕ) (fs : List (List ℕ)) → expected (outside (seen k p l 0 w) (tag_of f) (legs_in f)) fs ≡ expected (seen k p l 0 w) (f ∷ fs)
unfolding outside how_often
outside_step k p l w f fs =
    rw (once_step k (eqb (tag_of f) 40) (how_often 40 fs), once_step p (eqb (tag_of f) 44) (how_often 44 fs), rest_outside l f fs)
    (gathered w (k && eqb (tag_of f) 40) (p && eqb (tag_of f) 44) ((l && eqb (tag_of f) 555) || is_group f) _ _ _)

-- ---- a field of the groups

-- a tag that is not due fails the tests, whatever the others say
stopped : (w a b c d : Bool) → not w && (a && (b && (c && (false && d)))) ≡ false
stopped w a b c d = rw (and_no c, and_no b, and_no a, and_no (not w))

among_step : (k p w : Bool) (m : ℕ) (f : List ℕ) (fs : List (List ℕ))
    → expected (seen k p true m (w || not (eqb (tag_of f) (due_tag (suc m))))) fs ≡ expected (seen k p true (suc m) w) (f ∷ fs)
unfolding how_often same_numbers
among_step k p w m f fs = go (eqb (tag_of f) (due_tag (suc m))) refl
  where
    go : (d : Bool) → eqb (tag_of f) (due_tag (suc m)) ≡ d
        → expected (seen k p true m (w || not d)) fs ≡ expected (seen k p true (suc m) w) (f ∷ fs)
    go true e =
        let t : tag_of f ≡ due_tag (suc m) = eqb-true (tag_of f) (due_tag (suc m)) e in
        let e40 : eqb (tag_of f) 40 ≡ false = rw t (of_due (λ x. eqb x 40) false refl refl refl (suc m)) in
        let e44 : eqb (tag_of f) 44 ≡ false = rw t (of_due (λ x. eqb x 44) false refl refl refl (suc m)) in
        let e555 : eqb (tag_of f) 555 ≡ false = rw t (of_due (λ x. eqb x 555) false refl refl refl (suc m)) in
        rw (e, e40, e44, e555, or_false w)
    go false e = rw (e, or-true w) (sym (stopped w (once k (how_often 40 (f ∷ fs))) (once p (how_often 44 (f ∷ fs))) (eqb (how_often 555 (f ∷ fs)) 0) (not (any is_group (drop m fs)))))

-- ---- all fields

rest_none : (l : Bool) (n : ℕ) → rest_of l n [] ≡ l && eqb n 0
unfolding how_often same_numbers any
rest_none true zero = refl
rest_none true (suc n) = sym (eqb-suc-zero n)
rest_none false n = refl

once_none : (k : Bool) → once k 0 ≡ k
once_none true = refl
once_none false = refl

-- the tests of a state in the sequence of `expected`
regrouped : (k p l e w : Bool) → (k && p) && (l && (e && not w)) ≡ not w && (k && (p && (l && e)))
regrouped k p l e true = rw (and_no e, and_no l, and_no (k && p))
regrouped true p l e false = rw (and_true e)
regrouped false p l e false = refl

none_left : (k p l : Bool) (n : ℕ) (w : Bool) → is_complete (seen k p l n w) ≡ expected (seen k p l n w) []
unfolding is_complete how_often
none_left k p l n w = rw (once_none k, once_none p, rest_none l n) (regrouped k p l (eqb n 0) w)

-- groups are left behind 555 only
still_none : (l c : Bool) (n : ℕ) → l || c ≡ false → cond c n 0 ≡ 0
still_none l true n h = absurd (true≢false (sym (or-true l) ∙ h))
still_none l false n h = refl

runs : (fs : List (List ℕ)) (k p l : Bool) (n : ℕ) (w : Bool) → (l ≡ false → n ≡ 0) → is_complete (run_tags (seen k p l n w) fs) ≡ expected (seen k p l n w) fs
unfolding run_tags sequence_step outside among
runs [] k p l n w h = none_left k p l n w
runs (f ∷ fs) k p l zero w h =
    runs fs (k || eqb (tag_of f) 40) (p || eqb (tag_of f) 44) (l || eqb (tag_of f) 555) (cond (eqb (tag_of f) 555) (3 * legs_in f) 0) _ (still_none l (eqb (tag_of f) 555) (3 * legs_in f)) ∙ outside_step k p l w f fs
runs (f ∷ fs) k p true (suc m) w h =
    let e : suc m - 1 ≡ m = omega arith in
    rw (eqb-suc-zero m, e) (runs fs k p true m (w || not (eqb (tag_of f) (due_tag (suc m)))) (λ z. absurd (true≢false z)) ∙ among_step k p w m f fs)
runs (f ∷ fs) k p false (suc m) w h = let z = h refl in absurd (omega arith)

pub in_sequence_lem : (body : List (List ℕ)) → is_complete (run_tags none_seen body) ≡ in_sequence body
unfolding in_sequence every
in_sequence_lem body = runs body false false false 0 false (λ z. refl) ∙ rw (and_true (not (any is_group (behind_groups body))))

-- ---- field 10 at the end

run_append : (q : Sequence) (xs ys : List (List ℕ)) → run_tags q (xs ++ ys) ≡ run_tags (run_tags q xs) ys
unfolding run_tags
run_append q [] ys = refl
run_append q (x ∷ xs) ys = run_append (sequence_step q (tag_of x) (legs_in x)) xs ys

-- Outside the groups field 10 changes nothing; among them it is wrong, and they were not complete before it.
ten_outside : (q : Sequence) (legs : ℕ) → eqb q.left 0 ≡ true → sequence_step q 10 legs ≡ q
unfolding sequence_step
ten_outside q legs e =
    rw e (sym (further_outside q legs 10 (eqb-true q.left 0 e) (λ z. omega arith) (λ z. omega arith) (λ z. omega arith) (λ z. omega arith) (λ z. omega arith) (λ z. omega arith)))

ten_among : (q : Sequence) (legs : ℕ) → eqb q.left 0 ≡ false → is_complete (sequence_step q 10 legs) ≡ is_complete q
unfolding sequence_step among is_complete
ten_among q legs e = rw (e, of_due (λ t. eqb 10 t) false refl refl refl q.left, or-true, and_no (eqb (q.left - 1) 0))

ten_step : (q : Sequence) (legs : ℕ) → is_complete (sequence_step q 10 legs) ≡ is_complete q
ten_step q legs = go (eqb q.left 0) refl
  where
    go : (b : Bool) → eqb q.left 0 ≡ b → is_complete (sequence_step q 10 legs) ≡ is_complete q
    go true e = ap is_complete (ten_outside q legs e)
    go false e = ten_among q legs e

pub in_sequence_last : (body : List (List ℕ)) (t : List ℕ) → tag_of t ≡ 10 → is_complete (run_tags none_seen (body ++ (t ∷ []))) ≡ in_sequence body
unfolding run_tags
in_sequence_last body t e = rw (run_append none_seen body (t ∷ []), e) (ten_step (run_tags none_seen body) _ ∙ in_sequence_lem body)
