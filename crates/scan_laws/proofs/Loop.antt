-- The loop over the fields makes what the list of fields says, and it comes to the message's end where every byte is in a field.
use mathlib.Core.Path.{◌≡◌, refl, sym, ◌∙◌}
use mathlib.Core.List.{List, [], ◌∷◌}
use mathlib.Core.Bool.{true}
use Prim.Native.Nat.{ℕ, ◌≤◌}
use lib.Dec.{eqb}
use lib.ListN.{length, drop}
use Rattle.rules.specs.Fix.{fields_of, are_fields}
use Rattle.fields.specs.declared.Field.{Field}
use Rattle.fields.specs.Fields.{placed_at, fields_at}
use Rattle.fields.proofs.Laws.{none_left}
use Rattle.scan.specs.declared.Scan.{Scan}
use Rattle.scan.specs.Scanning.{begun, step_of, scan_over, scanned}
use Rattle.scan_laws.specs.Runs.{run_scan}
use Rattle.scan_laws.proofs.Standing.{one_first, past, behind_one, fields_behind, Place, stop, field, place}

next_is : (m : List ℕ) (s : Scan) (f : Field) → (step_of m s f).next ≡ f.next
unfolding step_of
next_is m s f = refl

module _ (m : List ℕ) where
  -- what the loop makes of the state `s`: it ends where the message does, or the bytes are not all fields
  abbrev Reaches : ℕ → Scan → Scan → Type 0
  Reaches at s r = (eqb r.next (length m) ≡ are_fields (drop at m)) × (are_fields (drop at m) ≡ true → r ≡ run_scan m at s (fields_of (drop at m)))

  -- by induction over the fields that stand there
  loop : (fs : List (List ℕ)) (at : ℕ) (s : Scan) → fields_of (drop at m) ≡ fs → s.next ≡ at → at ≤ length m → Reaches at s (scan_over m s (fields_at m at))
  unfolding scan_over run_scan
  loop [] at s e n h = go (place m at h)
    where
      go : Place m at → Reaches at s (scan_over m s (fields_at m at))
      go (stop t k l) = rw (none_left m at (sym t)) (rw n k, λ r. rw (l r))
      go (field a) = absurd cc
  loop (f ∷ fs) at s e n h = go (place m at h) (loop fs)
    where
      go : Place m at
          → ((at : ℕ) (s : Scan) → fields_of (drop at m) ≡ fs → s.next ≡ at → at ≤ length m → Reaches at s (scan_over m s (fields_at m at)))
          → Reaches at s (scan_over m s (fields_at m at))
      go (stop t k l) ih = rw (none_left m at (sym t)) (rw n k, λ r. rw (l r))
      go (field a) ih =
          let p = placed_at at a.bytes in
          let b = behind_one m at a in
          let o : a.others ≡ fs = cc in
          rw (one_first m at a, fields_behind m at a, a.are, ← b.0) (ih (past m at a) (step_of m s p) (b.0 ∙ o) (next_is m s p) b.1)

  -- where the loop ends, and what it makes
  module _ (at : ℕ) (h : at ≤ length m) where
    pub scan_ends : eqb (scanned m at).next (length m) ≡ are_fields (drop at m)
    unfolding scanned
    scan_ends = (loop (fields_of (drop at m)) at (begun at) refl refl h).0

    pub scan_runs : are_fields (drop at m) ≡ true → scanned m at ≡ run_scan m at (begun at) (fields_of (drop at m))
    unfolding scanned
    scan_runs = (loop (fields_of (drop at m)) at (begun at) refl refl h).1
