-- A session taken in parts of six.
use Rattle.std.proofs.Common.{◌≡◌, ℕ, zero, suc, ◌+◌, ◌*◌, ◌<◌, List, [], get_or, drop, sym, append_assoc, ◌≤◌, ap, ◌∙◌, arith}
use Rattle.std.proofs.lemmas.List.{get_or-take, get_or-drop}
use lib.ListN.{length, take, set}
use lib.Seq.{sets, sets-eq}
use Rattle.std.specs.Simd.{first_chunks}
use Rattle.rules.specs.declared.Login.{Login}
use Rattle.rules.specs.Session.{login_numbers, with_login}

-- a number of a part is at its place in the whole
pub chunk_read : (n k : ℕ) (s : List ℕ) (i j : ℕ) → i < k → j < n → get_or (get_or (first_chunks n k s) i []) j 0 ≡ get_or s (n * i + j) 0
chunk_read n zero s i j h g = absurd (omega arith)
chunk_read n (suc k) s zero j h g = let e : j ≡ n * 0 + j = omega arith in get_or-take n s j 0 g ∙ ap (λ (m : ℕ). get_or s m 0) e
chunk_read n (suc k) s (suc i) j h g =
    let e : n + (n * i + j) ≡ n * suc i + j = omega arith in
    chunk_read n k (drop n s) i j (omega arith) g ∙ get_or-drop n s (n * i + j) 0 ∙ ap (λ (m : ℕ). get_or s m 0) e

-- ---- a login's six numbers, stored in their places one after another

-- the stores at places that count up
stored_at : (s : List ℕ) (at : ℕ) (l : Login) (b c d e f : ℕ) → suc at ≡ b → suc (suc at) ≡ c → suc (suc (suc at)) ≡ d → suc (suc (suc (suc at))) ≡ e → suc (suc (suc (suc (suc at)))) ≡ f
    → set (set (set (set (set (set s at l.limit) b l.tally.seen) c l.tally.refused) d l.tally.accepted) e l.tally.rejected) f l.running ≡ sets s at (login_numbers l)
stored_at s at l b c d e f p q r t u =
    λ i. set (set (set (set (set (set s at l.limit) (sym p i) l.tally.seen) (sym q i) l.tally.refused) (sym r i) l.tally.accepted) (sym t i) l.tally.rejected) (sym u i) l.running

pub stored_login : (s : List ℕ) (i : ℕ) (l : Login) → 6 * i + 6 ≤ length s
    → set (set (set (set (set (set s (6 * i) l.limit) (6 * i + 1) l.tally.seen) (6 * i + 2) l.tally.refused) (6 * i + 3) l.tally.accepted) (6 * i + 4) l.tally.rejected) (6 * i + 5) l.running
    ≡ with_login s i l
unfolding with_login
stored_login s i l h =
    stored_at s (6 * i) l (6 * i + 1) (6 * i + 2) (6 * i + 3) (6 * i + 4) (6 * i + 5) (omega arith) (omega arith) (omega arith) (omega arith) (omega arith)
    ∙ sets-eq (login_numbers l) s (6 * i) h
    ∙ append_assoc (take (6 * i) s) (login_numbers l) (drop (6 * i + 6) s)
