-- A session filled login by login.
use Rattle.std.proofs.Common.{◌≡◌, refl, sym, ap, ◌∙◌, List, [], ◌∷◌, ◌++◌, append_assoc, append-nil, Bool, ◌&&◌, ℕ, ◌+◌, ◌*◌, ◌≤◌, ◌<◌, arith, add-one, length, take, drop, get_or}
use lib.ListN.{drop_of_length-le}
use lib.Seq.{length-take-le, take-suc, take_all, take_at, drop-append-add, drop-drop}
use Rattle.std.specs.List.{list_all}
use Rattle.std.proofs.lemmas.List.Recursion.{same_from_clauses}
use Rattle.rules.specs.declared.Login.{Login}
use Rattle.rules.specs.Lists.{all}
use Rattle.rules.specs.Session.{login_numbers, with_login, is_rejection_limit, fresh_login, session_of}
use Rattle.rules.proofs.Logins.{length_session}

-- what `all` of an iterator says
pub all_limits : (ns : List ℕ) → list_all is_rejection_limit ns ≡ all is_rejection_limit ns
unfolding all
all_limits ns = same_from_clauses (list_all is_rejection_limit) (all is_rejection_limit) (λ (n : ℕ) (b : Bool). is_rejection_limit n && b) refl (λ _ _. refl) (λ _ _. refl) ns

session_append : (xs ys : List ℕ) → session_of (xs ++ ys) ≡ session_of xs ++ session_of ys
unfolding session_of
session_append [] ys = refl
session_append (x ∷ xs) ys = ap (λ (s : List ℕ). login_numbers (fresh_login x) ++ s) (session_append xs ys)

-- the logins of the first `i` limits, and behind them what was there
abbrev pub filled : List ℕ → List ℕ → ℕ → List ℕ
filled limits s i = session_of (take i limits) ++ drop (6 * i) s

module _ (limits s : List ℕ) (some : length limits ≡ 32) (whole : length s ≡ 192) where
  pub filled_next : (i : ℕ) → i < 32 → {t u : List ℕ} {l : Login} → t ≡ filled limits s i → l ≡ fresh_login (get_or limits i 0) → u ≡ with_login t i l → u ≡ filled limits s (i + 1)
  unfolding with_login session_of
  filled_next i h {t} {u} {l} e f g =
      let front = session_of (take i limits) in
      let taken : length (take i limits) ≡ i = length-take-le i limits (omega arith) in
      let long : length front ≡ 6 * i = length_session (take i limits) ∙ ap (λ (n : ℕ). 6 * n) taken in
      let before : take (6 * i) t ≡ front = ap (take (6 * i)) e ∙ take_at front (drop (6 * i) s) (6 * i) long in
      let place : 6 * i + 6 ≡ 6 * (i + 1) = omega arith in
      let behind : drop (6 * i + 6) t ≡ drop (6 * (i + 1)) s =
      ap (drop (6 * i + 6)) e
      ∙ ap (λ (n : ℕ). drop (n + 6) (filled limits s i)) (sym long)
      ∙ drop-append-add front (drop (6 * i) s) 6
      ∙ drop-drop 6 (6 * i) s
      ∙ ap (λ (n : ℕ). drop n s) place
      in
      let fresh = login_numbers (fresh_login (get_or limits i 0)) in
      let one_more : front ++ fresh ≡ session_of (take (i + 1) limits) =
      ap (λ (ns : List ℕ). front ++ ns) (sym (append-nil fresh))
      ∙ sym (session_append (take i limits) (get_or limits i 0 ∷ []))
      ∙ ap session_of (sym (take-suc limits i 0 (omega arith)) ∙ ap (λ (n : ℕ). take n limits) (sym (add-one i)))
      in
      g
      ∙ ap (λ (ns : List ℕ). ns ++ (login_numbers l ++ drop (6 * i + 6) t)) before
      ∙ ap (λ (l : Login). front ++ (login_numbers l ++ drop (6 * i + 6) t)) f
      ∙ ap (λ (ns : List ℕ). front ++ (fresh ++ ns)) behind
      ∙ sym (append_assoc front fresh (drop (6 * (i + 1)) s))
      ∙ ap (λ (ns : List ℕ). ns ++ drop (6 * (i + 1)) s) one_more

  pub filled_all : (i : ℕ) → 32 ≤ i → filled limits s i ≡ session_of limits
  filled_all i h =
      ap (λ (ns : List ℕ). session_of ns ++ drop (6 * i) s) (take_all i limits (omega arith))
      ∙ ap (λ (ns : List ℕ). session_of limits ++ ns) (drop_of_length-le s {i = 6 * i} (omega arith))
      ∙ append-nil (session_of limits)
