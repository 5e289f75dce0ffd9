-- What the head and the loop find in a message is what document 02 says of it: from the first three fields and field 10 on.
use mathlib.Core.Path.{◌≡◌, refl, sym, ap, ◌∙◌}
use mathlib.Core.List.{List}
use mathlib.Core.Bool.{Bool, true, false, cond, not, ◌&&◌, true≢false}
use Prim.Native.Nat.{ℕ, ◌≤◌}
use native.Mathlib.Omega.{arith}
use lib.Dec.{eqb}
use lib.ListN.{length}
use Rattle.std.specs.Prelude.{Option, Some, None, is_some}
use Rattle.rules.specs.Lists.{all}
use Rattle.rules.specs.Fix.{fields_of, are_fields, has_frame, body_of, in_sequence, is_formed}
use Rattle.rules.proofs.Tests.{and_both, and_of, same_test}
use Rattle.fields.specs.Fields.{Inside}
use Rattle.frame.specs.declared.Closing.{Closing}
use Rattle.frame.specs.declared.Head.{Head}
use Rattle.frame.specs.Frame.{head_of}
use Rattle.groups.specs.Sequence.{is_complete}
use Rattle.scan.specs.declared.Scan.{Scan}
use Rattle.scan.specs.Scanning.{scanned}
use Rattle.scan_laws.specs.Message.{is_framed_by, has_frame_by, Said}
use Rattle.scan_laws.proofs.Frames.{found_closed, opened_framed}
use Rattle.scan_laws.proofs.Heads.{Opened, head_opened, frame_opened, body, right, told, head_is}
use Rattle.scan_laws.proofs.Orders.{sequence_is, formed_is, said_is}
use Rattle.scan_laws.proofs.Tails.{seen, Closed, closed, closing, closing_is, counted_bytes, last_inside}

-- field 10, and that the bytes which are counted end before it, in a message of so many bytes
abbrev Ends : ℕ → Head → Closing → Type 0
Ends n h c = (h.counted ≤ c.at) × (c.at ≤ n) × Inside n c.value

ends_alike : {h k : Head} {c d : Closing} (n : ℕ) → h ≡ k → c ≡ d → Ends n k d → Ends n h c
ends_alike n p q x = rw (p, q) x

module _ (m : List ℕ) where
  -- a head that was found, and the loop behind it
  module _ {h : Head} (e : head_of m ≡ Some h) where
    abbrev o : Opened m
    o = head_opened m e

    told_is : (right m o ≡ true) × (h ≡ told m o)
    told_is = go (right m o) (sym e ∙ head_is m o)
      where
        go : (b : Bool) → Some h ≡ cond b (Some (told m o)) None → (b ≡ true) × (h ≡ told m o)
        go true k = (refl, cc)
        go false k = absurd cc

    pub tail_found : (s : Scan) → s ≡ scanned m h.body → eqb s.next (length m) ≡ true → is_some s.tail.closing ≡ true → s.tail.stray ≡ false
        → (c : Closing) → s.tail.closing ≡ Some c → (h.counted ≤ c.at) × (c.at ≤ length m) × Inside (length m) c.value
    tail_found s d n t k c x =
        let b : h.body ≡ body m o = ap (λ (h : Head). h.body) told_is.1 in
        let w : s ≡ seen m o = rw b at d in
        let z = closed m o (rw w at n) (rw w at t) (rw w at k) in
        let y : c ≡ closing m z = cc (closing_is m z) in
        let l = last_inside m z in
        ends_alike (length m) told_is.1 y (omega (arith, counted_bytes m z), l.0, l.1)

    module _ (s : Scan) (d : s ≡ scanned m h.body) (framed : is_framed_by m h s ≡ true) where
      same : s ≡ seen m o
      same = d ∙ ap (λ (h : Head). scanned m h.body) told_is.1

      framed_closed : Closed m
      unfolding is_framed_by
      framed_closed =
          let k = rw same at framed in
          found_closed m o (and_of told_is.0 (and_both (eqb (seen m o).next (length m) && (is_some (seen m o).tail.closing && not (seen m o).tail.stray)) _ k).0)

      pub sequence : is_complete s.sequence ≡ in_sequence (body_of m)
      unfolding framed_closed
      sequence = rw same (sequence_is m framed_closed)

      pub formed : s.formed ≡ all is_formed (body_of m)
      unfolding framed_closed
      formed = rw same (formed_is m framed_closed)

      pub said : in_sequence (body_of m) ≡ true → Said m s
      unfolding framed_closed
      said = rw same (said_is m framed_closed)

  -- the frame, where there is a head, and where there is none
  pub framed : has_frame_by m (head_of m) ≡ (are_fields m && has_frame (fields_of m))
  unfolding has_frame_by
  framed = go (head_of m) refl
    where
      go : (h : Option Head) → head_of m ≡ h → has_frame_by m (head_of m) ≡ (are_fields m && has_frame (fields_of m))
      go (Some h) e = opened_framed m (head_opened m e)
      go None e = same_test _ _ (λ x. absurd (true≢false (sym x ∙ rw e))) (λ x. opened_framed m (frame_opened m x) ∙ x)
