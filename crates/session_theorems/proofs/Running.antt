-- A login's running number over lists of calls: its rejections since the start or its last release.
use mathlib.Core.Path.{◌≡◌, refl, sym, ap, ◌∙◌}
use mathlib.Core.List.{List, [], ◌∷◌}
use mathlib.Core.Bool.{Bool, true, false, cond, ◌&&◌, true≢false}
use Prim.Native.Nat.{ℕ}
use native.Mathlib.Omega.{arith}
use lib.Dec.{ltb}
use borrow.Author.Tests.{ltb-true, eqb-true}
use Rattle.rules.specs.declared.Login.{Login}
use Rattle.rules.specs.declared.OrderAnswer.{OrderAnswer}
use Rattle.rules.specs.Kinds.{is_rejected}
use Rattle.rules.specs.Tally.{one_more}
use Rattle.rules.specs.Session.{login_at, is_bad_session}
use Rattle.rules.proofs.Logins.{login_beyond}
use Rattle.rules.proofs.Turning.{good}
use Rattle.session_theorems.specs.Calls.{SessionCall, ordered, released, is_order, answered, after, session_after, is_of, since_release}
use Rattle.session_theorems.proofs.Steps.{is_none, is_taken, taken_answer, away_answer, stepped, login_after}
use Rattle.session_theorems.proofs.Goodness.{bad_after}
use Rattle.session_theorems.proofs.Tallies.{away_fails}
use Rattle.session_theorems.proofs.Restriction.{release_turned}

module _ (i : ℕ) where
  abbrev running : List ℕ → ℕ
  running s = (login_at s i).running

  abbrev next : List ℕ → SessionCall → ℕ → ℕ
  next s c k = cond (is_order c) (one_more (is_rejected (answered s c).number) k) 0

  taken_running : (s : List ℕ) (c : SessionCall) → is_taken s c ≡ true → (stepped c (login_at s i)).running ≡ next s c (running s)
  taken_running s (ordered j c) e = ap (λ (a : OrderAnswer). one_more (is_rejected a.number) (running s)) (sym (taken_answer s (ordered j c) e))
  taken_running s (released j) e = refl

  away_running : (s : List ℕ) (c : SessionCall) → is_bad_session s ≡ false → is_of i c ≡ true → is_taken s c ≡ false → running s ≡ next s c (running s)
  away_running s (ordered j c) g e f = ap (λ (b : Bool). one_more b (running s)) (sym (away_fails is_rejected refl refl refl (answered s (ordered j c)).number (away_answer s (ordered j c) f)))
  away_running s (released j) g e f = go (ltb 31 j) refl
    where
      go : (b : Bool) → ltb 31 j ≡ b → running s ≡ 0
      go true h =
          let k = ltb-true 31 j h in
          let w = (good s g).whole in
          let m = eqb-true j i e in
          ap (λ (l : Login). l.running) (login_beyond s i (omega (arith, w, m, k)))
      go false h = absurd (true≢false (sym (ap is_none (release_turned s g j ∙ ap (λ (b : Bool). cond b 34 0) h)) ∙ f))

  running_step : (s : List ℕ) (c : SessionCall) → is_bad_session s ≡ false → running (after s c) ≡ cond (is_of i c) (next s c (running s)) (running s)
  running_step s c g = ap (λ (l : Login). l.running) (login_after s c i) ∙ go (is_of i c) refl (is_taken s c) refl
    where
      go : (b : Bool) → is_of i c ≡ b → (t : Bool) → is_taken s c ≡ t → (cond (b && t) (stepped c (login_at s i)) (login_at s i)).running ≡ cond b (next s c (running s)) (running s)
      go true e true f = taken_running s c f
      go true e false f = away_running s c g e f
      go false e t f = refl

  pub running_is : (s : List ℕ) (cs : List SessionCall) (k : ℕ) → is_bad_session s ≡ false → running s ≡ k → running (session_after s cs) ≡ since_release i s cs k
  unfolding session_after since_release
  running_is s [] k g e = e
  running_is s (c ∷ cs) k g e = running_is (after s c) cs _ (bad_after s c ∙ g) (running_step s c g ∙ ap (λ (x : ℕ). cond (is_of i c) (next s c x) x) e)
