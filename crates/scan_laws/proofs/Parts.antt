-- The parts of what the loop makes, each a run of its own over the list of fields.
use mathlib.Core.Path.{◌≡◌, refl, sym, ap, ◌∙◌}
use mathlib.Core.List.{List, [], ◌∷◌}
use mathlib.Core.Bool.{Bool, true, false, cond, ◌&&◌}
use Prim.Native.Nat.{ℕ, suc, ◌+◌}
use native.Mathlib.Omega.{arith}
use lib.Dec.{eqb}
use lib.ListN.{length, drop}
use borrow.Author.Tests.{eqb-true}
use Rattle.rules.specs.Lists.{all, same_numbers}
use Rattle.rules.specs.Fix.{fields_of, tag_of, is_formed, how_often, one, number_said}
use Rattle.rules.proofs.Tests.{and_true, and_assoc}
use Rattle.fields.specs.declared.Field.{Field}
use Rattle.fields.specs.Fields.{placed_at, value_in}
use Rattle.fields.proofs.Laws.{value_at_lem, behind_at}
use Rattle.frame_laws.specs.Runs.{run_tail}
use Rattle.message_laws.specs.Runs.{run_tags}
use Rattle.scan.specs.declared.Places.{Places}
use Rattle.scan.specs.declared.Scan.{Scan}
use Rattle.scan.specs.Scanning.{places_step, step_of}
use Rattle.scan_laws.specs.Runs.{run_scan, first_with}

module _ (m : List ℕ) where
  pub tail_run : (fs : List (List ℕ)) (at : ℕ) (s : Scan) → s.next ≡ at → (run_scan m at s fs).tail ≡ run_tail at s.tail fs
  unfolding run_scan run_tail step_of
  tail_run [] at s n = refl
  tail_run (f ∷ fs) at s n = tail_run fs (at + length f + 1) (step_of m s (placed_at at f)) refl ∙ rw n

  pub sequence_run : (fs : List (List ℕ)) (at : ℕ) (s : Scan) → fields_of (drop at m) ≡ fs → (run_scan m at s fs).sequence ≡ run_tags s.sequence fs
  unfolding run_scan run_tags step_of
  sequence_run [] at s e = refl
  sequence_run (f ∷ fs) at s e = sequence_run fs (at + length f + 1) (step_of m s (placed_at at f)) (behind_at m at f fs e).0 ∙ rw (value_at_lem m at f fs e)

  pub formed_run : (fs : List (List ℕ)) (at : ℕ) (s : Scan) → fields_of (drop at m) ≡ fs → (run_scan m at s fs).formed ≡ s.formed && all is_formed fs
  unfolding run_scan step_of all
  formed_run [] at s e = sym (and_true s.formed)
  formed_run (f ∷ fs) at s e = formed_run fs (at + length f + 1) (step_of m s (placed_at at f)) (behind_at m at f fs e).0 ∙ rw (value_at_lem m at f fs e, and_assoc)

  -- what 40, 44 and 555 put into the places, each its own
  abbrev pub put : Places → Field → Places
  put p f =
      record {
        market = cond (eqb f.tag 40) (same_numbers (value_in m f) one) p.market;
        price = cond (eqb f.tag 44) f.value p.price;
        groups = cond (eqb f.tag 555) f.next p.groups;
        legs = cond (eqb f.tag 555) (number_said (value_in m f)) p.legs;
      }

  places_are : (p : Places) (f : Field) → places_step m p f ≡ put p f
  unfolding places_step
  places_are p f = go (eqb f.tag 40) refl (eqb f.tag 44) refl (eqb f.tag 555) refl
    where
      go : (a : Bool) → eqb f.tag 40 ≡ a → (b : Bool) → eqb f.tag 44 ≡ b → (c : Bool) → eqb f.tag 555 ≡ c → places_step m p f ≡ put p f
      go true x b y c z = rw (eqb-true f.tag 40 x)
      go false x true y c z = rw (eqb-true f.tag 44 y)
      go false x false y true z = rw (eqb-true f.tag 555 z)
      go false x false y false z = rw (x, y, z)

  -- a part of the places that a field with the tag `t` alone changes
  module _ {X : Type 0} (part : Places → X) (t : ℕ) (new : Field → X) (own : (p : Places) (f : Field) → part (put p f) ≡ cond (eqb f.tag t) (new f) (part p)) where
    step : (p : Places) (f : Field) → part (places_step m p f) ≡ cond (eqb f.tag t) (new f) (part p)
    step p f = ap part (places_are p f) ∙ own p f

    kept : (fs : List (List ℕ)) (at : ℕ) (s : Scan) → how_often t fs ≡ 0 → part (run_scan m at s fs).places ≡ part s.places
    unfolding run_scan how_often step_of
    kept [] at s h = refl
    kept (f ∷ fs) at s h = go (eqb (tag_of f) t) refl h (kept fs (at + length f + 1) (step_of m s (placed_at at f)))
      where
        go : (b : Bool) → eqb (tag_of f) t ≡ b → cond b (suc (how_often t fs)) (how_often t fs) ≡ 0
            → (how_often t fs ≡ 0 → part (run_scan m at s (f ∷ fs)).places ≡ part (places_step m s.places (placed_at at f))) → part (run_scan m at s (f ∷ fs)).places ≡ part s.places
        go true e k ih = absurd (omega arith)
        go false e k ih = ih k ∙ step s.places (placed_at at f) ∙ rw e

    pub once : (fs : List (List ℕ)) (at : ℕ) (s : Scan) → how_often t fs ≡ 1 → part (run_scan m at s fs).places ≡ new (first_with t at fs)
    unfolding run_scan how_often step_of first_with
    once [] at s h = absurd (omega arith)
    once (f ∷ fs) at s h = go (eqb (tag_of f) t) refl h (once fs (at + length f + 1) (step_of m s (placed_at at f)))
      where
        go : (b : Bool) → eqb (tag_of f) t ≡ b → cond b (suc (how_often t fs)) (how_often t fs) ≡ 1
            → (how_often t fs ≡ 1 → part (run_scan m at s (f ∷ fs)).places ≡ new (first_with t (at + length f + 1) fs))
            → part (run_scan m at s (f ∷ fs)).places ≡ new (cond b (placed_at at f) (first_with t (at + length f + 1) fs))
        go true e k ih = kept fs (at + length f + 1) (step_of m s (placed_at at f)) (omega arith) ∙ step s.places (placed_at at f) ∙ rw e
        go false e k ih = ih k
