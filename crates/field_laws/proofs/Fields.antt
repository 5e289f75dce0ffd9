-- The fields of a message one after the other: what the first is, what remains behind it, and that fields written one behind the other are read again.
use mathlib.Core.Path.{◌≡◌, refl, sym, ap, ◌∙◌}
use mathlib.Core.List.{List, [], ◌∷◌, ◌++◌, append_assoc}
use mathlib.Core.Bool.{Bool, true, false, not}
use Prim.Native.Nat.{ℕ, ◌+◌, ◌-◌}
use native.Mathlib.Omega.{arith}
use lib.Dec.{eqb}
use lib.ListN.{length, take, drop, length-append, length-drop}
use lib.Seq.{length-take-le, take-append_seam, drop-append-add, drop-drop, take-add, slice}
use borrow.Author.Tests.{eqb-true}
use Rattle.rules.specs.Lists.{All, all}
use Rattle.rules.specs.Fix.{ahead, fields_of, bytes_of}
use Rattle.rules.proofs.Tests.{and_both, not_eq}

-- no byte 1 is among the bytes
abbrev pub in_field : ℕ → Bool
in_field b = not (eqb b 1)

pub fields_cons : (f s : List ℕ) → all in_field f ≡ true → fields_of (f ++ (1 ∷ s)) ≡ f ∷ fields_of s
unfolding all fields_of ahead
fields_cons [] s h = refl
fields_cons (b ∷ f) s h = let k = and_both (in_field b) _ h in rw (not_eq (eqb b 1) k.0, fields_cons f s k.1)

-- fields that are written are read again
pub fields_append : (fs : List (List ℕ)) (s : List ℕ) → All (λ f. all in_field f ≡ true) fs → fields_of (bytes_of fs ++ s) ≡ fs ++ fields_of s
unfolding bytes_of
fields_append [] s h = refl
fields_append (f ∷ fs) s h = rw (append_assoc f (1 ∷ bytes_of fs) s, fields_cons f (bytes_of fs ++ s) h.0, fields_append fs s h.1)

-- the bytes of fields one behind the other
pub bytes_append : (fs gs : List (List ℕ)) → bytes_of (fs ++ gs) ≡ bytes_of fs ++ bytes_of gs
unfolding bytes_of
bytes_append [] gs = refl
bytes_append (f ∷ fs) gs = ap (λ l. f ++ (1 ∷ l)) (bytes_append fs gs) ∙ sym (append_assoc f (1 ∷ bytes_of fs) (bytes_of gs))

-- what fields there are: none where no byte is byte 1, else the bytes up to the first, and those of the rest
pub data Fields (s : List ℕ) : Type 0 where
  none : all in_field s ≡ true → fields_of s ≡ [] → Fields s
  some : (f r : List ℕ) → all in_field f ≡ true → s ≡ f ++ (1 ∷ r) → fields_of s ≡ f ∷ fields_of r → Fields s

pub fields_are : (s : List ℕ) → Fields s
unfolding all fields_of ahead
fields_are [] = none refl refl
fields_are (b ∷ s) = go (eqb b 1) refl (fields_are s)
  where
    go : (x : Bool) → eqb b 1 ≡ x → Fields s → Fields (b ∷ s)
    go true e k = some [] s refl (ap (λ (c : ℕ). c ∷ s) (eqb-true b 1 e)) (rw e)
    go false e (none h g) = none (rw e h) (rw (e, g))
    go false e (some f r h g l) = some (b ∷ f) r (rw e h) (ap (λ (t : List ℕ). b ∷ t) g) (rw (e, l))

-- the bytes whose first field is `f`, with the fields `fs` behind it
pub record First (s f : List ℕ) (fs : List (List ℕ)) : Type 0 where
  pub rest : List ℕ
  pub whole : s ≡ f ++ (1 ∷ rest)
  pub others : fields_of rest ≡ fs

pub first_is : (s f : List ℕ) (fs : List (List ℕ)) → fields_of s ≡ f ∷ fs → First s f fs
first_is s f fs e = go (fields_are s)
  where
    go : Fields s → First s f fs
    go (none h g) = let z : ◌≡◌ {A = ℕ} 0 1 = cc in absurd (omega arith)
    go (some h r k g l) =
        let a : h ≡ f = cc in
        record { rest = r; whole = rw a at g; others = cc }

-- the field `f` at the place `at` of a message
module _ (m : List ℕ) (at : ℕ) (f r : List ℕ) (e : drop at m ≡ f ++ (1 ∷ r)) where
  -- where it ends
  pub ends_at : length m ≡ at + length f + 1 + length r
  ends_at =
      let l : length (f ++ (1 ∷ r)) ≡ length m - at = sym (ap length e) ∙ length-drop at m in
      omega (arith, length-append f (1 ∷ r))

  pub rest_at : drop (at + length f + 1) m ≡ r
  rest_at =
      let k : at + length f + 1 ≡ at + (length f + 1) = omega arith in
      rw (k, sym (drop-drop (length f + 1) at m), e) (drop-append-add f (1 ∷ r) 1)

  -- a part of it, by its places in the message
  pub part_at : (j : ℕ) → slice (at + j) (at + length f) m ≡ drop j f
  part_at j =
      let a : length (take at m) ≡ at = length-take-le at m (omega (arith, ends_at)) in
      let t : take (at + length f) m ≡ take at m ++ f = rw (take-add at (length f) m, e, take-append_seam f (1 ∷ r)) in
      let d : at + j ≡ length (take at m) + j = ap (λ (n : ℕ). n + j) (sym a) in
      rw t (ap (λ (n : ℕ). drop n (take at m ++ f)) d ∙ drop-append-add (take at m) f j)
