-- What a session that is not bad gives to the next call, and a restricted login until its release.
use mathlib.Core.Path.{◌≡◌, refl, sym, ap, ◌∙◌}
use mathlib.Core.List.{List, [], ◌∷◌}
use mathlib.Core.Bool.{Bool, true, false, cond, not, ◌&&◌, ◌||◌, true≢false}
use Prim.Native.Nat.{ℕ, ◌≤◌, ◌<◌}
use native.Mathlib.Omega.{arith}
use lib.Dec.{eqb, ltb}
use borrow.Author.Tests.{le-ltb, eqb-true}
use Rattle.rules.specs.declared.OrderAnswer.{OrderAnswer}
use Rattle.rules.specs.Lists.{all}
use Rattle.rules.specs.Numbers.{first_of, refused, outcome}
use Rattle.rules.specs.Tally.{Call, own_answer}
use Rattle.rules.specs.Session.{login_at, is_bad_session, is_full, is_restricted, turned_away, check_in_session, release_login}
use Rattle.rules.proofs.Tests.{and_both, and_of, not_eq}
use Rattle.rules.proofs.Turning.{gets_34}
use Rattle.session_theorems.specs.Calls.{SessionCall, ordered, released, login_of, is_order, answered, after, session_after, is_before_limit, is_of, order_numbers_of, own_numbers, turns_away, has_no_release}
use Rattle.session_theorems.specs.Sessions.{Restricted, Next}
use Rattle.session_theorems.proofs.Steps.{is_taken, taken, answer_is, taken_answer, away_answer, stepped, login_after}
use Rattle.session_theorems.proofs.Goodness.{bad_after}
use Rattle.session_theorems.proofs.Tallies.{not_away}

-- ---- of any session: what is not turned away gets what the order check gives

pub same : (s : List ℕ) (i : ℕ) (c : Call) → turns_away (check_in_session s i c).answer.number ≡ false → (check_in_session s i c).answer ≡ own_answer c
same s i c h = go (is_taken s (ordered i c)) refl
  where
    go : (t : Bool) → is_taken s (ordered i c) ≡ t → (check_in_session s i c).answer ≡ own_answer c
    go true e = taken_answer s (ordered i c) e
    go false e = absurd (true≢false (sym (away_answer s (ordered i c) e) ∙ h))

-- ---- of any session: 34 comes before everything

pub beyond : (s : List ℕ) (i : ℕ) (c : Call) → 31 < i → ((check_in_session s i c).answer ≡ refused 34) × ((release_login s i).number ≡ 34)
unfolding outcome release_login
beyond s i c h = (answer_is s (ordered i c) ∙ ap (λ (n : ℕ). outcome n (own_answer c)) (gets_34 true s i h), gets_34 false s i h)

-- ---- of any session: a restricted login's orders are turned away until its release

module _ (i : ℕ) where
  until_release : (s : List ℕ) (ds : List SessionCall) → is_restricted (login_at s i) ≡ true → has_no_release i ds ≡ true
      → (all turns_away (own_numbers i s ds) ≡ true) × (login_at (session_after s ds) i ≡ login_at s i)
  unfolding all order_numbers_of session_after has_no_release
  until_release s [] r h = (refl, refl)
  until_release s (c ∷ cs) r h = let rest = until_release (after s c) cs (ap is_restricted stays ∙ r) both.1 in (step.1 ∙ rest.0, rest.1 ∙ stays)
    where
      both : (is_order c || not (is_of i c) ≡ true) × (has_no_release i cs ≡ true)
      both = and_both _ _ h

      ns : List ℕ
      ns = own_numbers i (after s c) cs

      go : (b : Bool) → is_of i c ≡ b → (o : Bool) → is_order c ≡ o → o || not b ≡ true → (t : Bool) → is_taken s c ≡ t
          → (b && t ≡ false) × (all turns_away (cond (o && b) ((answered s c).number ∷ ns) ns) ≡ all turns_away ns)
      go true e true f k true m =
          let r' = ap (λ (j : ℕ). is_restricted (login_at s j)) (eqb-true (login_of c) i e) ∙ r in
          absurd (true≢false (sym (and_of f r') ∙ (taken s c m).free))
      go true e true f k false m = (refl, ap (λ (b : Bool). b && all turns_away ns) (away_answer s c m))
      go true e false f k t m = absurd (true≢false (sym k))
      go false e true f k t m = (refl, refl)
      go false e false f k t m = (refl, refl)

      step : (is_of i c && is_taken s c ≡ false) × (all turns_away (cond (is_order c && is_of i c) ((answered s c).number ∷ ns) ns) ≡ all turns_away ns)
      step = go (is_of i c) refl (is_order c) refl both.0 (is_taken s c) refl

      stays : login_at (after s c) i ≡ login_at s i
      stays = login_after s c i ∙ ap (λ (b : Bool). cond b (stepped c (login_at s i)) (login_at s i)) step.0

-- ---- a session that is not bad

module _ (u : List ℕ) (good : is_bad_session u ≡ false) (i : ℕ) where
  pub release_turned : turned_away false u i ≡ cond (ltb 31 i) 34 0
  unfolding turned_away first_of
  release_turned = rw good refl

  order_turned : turned_away true u i ≡ cond (ltb 31 i) 34 (cond (is_full u) 12 (cond (is_restricted (login_at u i)) 35 0))
  unfolding turned_away first_of
  order_turned = rw good refl

  answer_of_lem : (c : Call) → (check_in_session u i c).answer ≡ outcome (cond (ltb 31 i) 34 (cond (is_full u) 12 (cond (is_restricted (login_at u i)) 35 0))) (own_answer c)
  answer_of_lem c = answer_is u (ordered i c) ∙ ap (λ (n : ℕ). outcome n (own_answer c)) order_turned

  twelve : (c : Call) → (check_in_session u i c).answer.number ≡ 12 → is_full u ≡ true
  unfolding outcome
  twelve c h = go (ltb 31 i) (is_full u) (is_restricted (login_at u i)) (sym (ap (λ (a : OrderAnswer). a.number) (answer_of_lem c)) ∙ h)
    where
      go : (a f r : Bool) → (outcome (cond a 34 (cond f 12 (cond r 35 0))) (own_answer c)).number ≡ 12 → f ≡ true
      go true f r k = absurd (omega (arith, k))
      go false true r k = refl
      go false false true k = absurd (omega (arith, k))
      go false false false k = absurd (true≢false (sym (ap turns_away k) ∙ not_away c))

  restricted_answer : (c : Call) → i ≤ 31 → is_restricted (login_at u i) ≡ true → (check_in_session u i c).answer ≡ refused (cond (is_full u) 12 35)
  unfolding outcome
  restricted_answer c l r = answer_of_lem c ∙ go (ltb 31 i) (is_full u) (is_restricted (login_at u i)) (le-ltb 31 i l) r
    where
      go : (a f r : Bool) → a ≡ false → r ≡ true → outcome (cond a 34 (cond f 12 (cond r 35 0))) (own_answer c) ≡ refused (cond f 12 35)
      go true f r e k = absurd (true≢false e)
      go false true r e k = refl
      go false false true e k = refl
      go false false false e k = absurd (true≢false (sym k))

  full_answer : (c : Call) → i ≤ 31 → is_full u ≡ true → (check_in_session u i c).answer ≡ refused 12
  unfolding outcome
  full_answer c l f = answer_of_lem c ∙ rw (le-ltb 31 i l, f) refl

  free_answer : (c : Call) → i ≤ 31 → is_restricted (login_at u i) ≡ false → is_full u ≡ false → (check_in_session u i c).answer ≡ own_answer c
  unfolding outcome
  free_answer c l r f = answer_of_lem c ∙ rw (le-ltb 31 i l, f, r) refl

-- ---- until its release

module _ (i : ℕ) (here : i ≤ 31) (f : ℕ → Bool) (K : List ℕ → List SessionCall → Type 0) (step : (s : List ℕ) (c : SessionCall) (cs : List SessionCall) → K s (c ∷ cs) → (f (cond (is_full s) 12 35) ≡ true) × K (after s c) cs) where
  numbers_until : (s : List ℕ) (ds : List SessionCall) → is_bad_session s ≡ false → is_restricted (login_at s i) ≡ true → has_no_release i ds ≡ true → K s ds → all f (own_numbers i s ds) ≡ true
  unfolding all order_numbers_of has_no_release session_after
  numbers_until s [] g r h k = refl
  numbers_until s (c ∷ cs) g r h k =
      head c (is_of i c) refl
      ∙ numbers_until (after s c) cs (bad_after s c ∙ g) (ap is_restricted stays ∙ r) both.1 (step s c cs k).1
    where
      both : (is_order c || not (is_of i c) ≡ true) × (has_no_release i cs ≡ true)
      both = and_both _ _ h

      stays : login_at (after s c) i ≡ login_at s i
      stays = (until_release i s (c ∷ []) r (and_of both.0 refl)).1

      ns : List ℕ
      ns = own_numbers i (after s c) cs

      head : (d : SessionCall) (b : Bool) → is_of i d ≡ b → all f (cond (is_order d && b) ((answered s d).number ∷ ns) ns) ≡ all f ns
      head (ordered j d) true e =
          let given : (answered s (ordered j d)).number ≡ cond (is_full s) 12 35 =
          ap (λ (n : ℕ). (check_in_session s n d).answer.number) (eqb-true j i e) ∙ ap (λ (a : OrderAnswer). a.number) (restricted_answer s g i d here r)
          in
          ap (λ (b : Bool). b && all f ns) (ap f given ∙ (step s c cs k).0)
      head (ordered j d) false e = refl
      head (released j) b e = refl

restricted_over : (u : List ℕ) → is_bad_session u ≡ false → (i : ℕ) (ds : List SessionCall) → i ≤ 31 → is_restricted (login_at u i) ≡ true → has_no_release i ds ≡ true → Restricted i u ds
unfolding is_before_limit
restricted_over u good i ds l r h =
    record {
      numbers = numbers_until i l (λ n. eqb n 35 || eqb n 12) (λ s cs. Unit {0}) (λ s c cs k. (either (is_full s), tt)) u ds good r h tt;
      before =
          numbers_until i l (λ n. eqb n 35) (λ s cs. is_before_limit s cs ≡ true)
          (λ s c cs k. let e = and_both (not (is_full s)) (is_before_limit (after s c) cs) k in (ap (λ (b : Bool). eqb (cond b 12 35) 35) (not_eq (is_full s) e.0), e.1))
          u ds good r h;
      part = (until_release i u ds r h).1;
    }
  where
    either : (b : Bool) → eqb (cond b 12 35) 35 || eqb (cond b 12 35) 12 ≡ true
    either true = refl
    either false = refl

pub next : (u : List ℕ) → is_bad_session u ≡ false → Next u
unfolding release_login
next u good =
    record {
      good = good;
      twelve = twelve u good;
      full = full_answer u good;
      release = release_turned u good;
      restricted = restricted_answer u good;
      until = restricted_over u good;
      free = free_answer u good;
    }
