-- What verticals, butterflies and boxes are worth under a fair table.
use mathlib.Core.Path.{◌≡◌, refl, sym, ap, ◌∙◌}
use mathlib.Core.List.{List, [], ◌∷◌}
use mathlib.Core.Bool.{Bool, true, false, cond, ◌&&◌, not, true≢false}
use mathlib.Core.Logic.{◌⊎◌, inl, inr}
use Prim.Native.Nat.{ℕ, ◌+◌, ◌-◌, ◌*◌, ◌≤◌, ◌<◌, min}
use native.Mathlib.Omega.{arith}
use native.Mathlib.Nat.{add_comm}
use lib.Dec.{ltb, leb}
use borrow.Author.Tests.{ltb-true, ltb-false, leb-true, le-leb, eqb-true}
use Rattle.rules.specs.declared.Series.{Series}
use Rattle.rules.specs.declared.Leg.{Leg}
use Rattle.rules.specs.declared.Settings.{Settings}
use Rattle.rules.specs.declared.Market.{Market}
use Rattle.rules.specs.Lists.{same_bool}
use Rattle.rules.specs.Class.{strike_of, is_vertical, between, is_butterfly, has_own_class, is_box}
use Rattle.demand3.specs.Fair.{Has, Fair, ShareExpiry}
use Rattle.rules.proofs.Tests.{and_both, or_either, not_eq, opposite_eq, passed}
use Rattle.demand3.proofs.Worth.{worth}
use Rattle.demand3.proofs.Butterfly.{fly_calls, fly_puts}
use Rattle.demand3.proofs.Groups.{one_expiry_lem, series_eq}

Between : ℕ → ℕ → ℕ → Type 0
Between a m b = ((a < m) × (m < b)) ⊎ ((b < m) × (m < a))

to_between : (a m b : ℕ) → between a m b ≡ true → Between a m b
unfolding Between
to_between a m b h = go (or_either (ltb a m && ltb m b) (ltb b m && ltb m a) h)
  where
    go : (ltb a m && ltb m b ≡ true) ⊎ (ltb b m && ltb m a ≡ true) → ((a < m) × (m < b)) ⊎ ((b < m) × (m < a))
    go (inl k) = let f = and_both (ltb a m) (ltb m b) k in inl (ltb-true a m f.0, ltb-true m b f.1)
    go (inr k) = let f = and_both (ltb b m) (ltb m a) k in inr (ltb-true b m f.0, ltb-true m a f.1)

module _ (st : Settings) (mk : Market) (legs : List Leg) (v : Series → ℕ) (fair : Fair st mk legs v) where
  abbrev H : Series → Type 0
  H = Has legs

  -- no further apart than the strikes
  near : (s t : Series) → H s → H t → ShareExpiry s t → v s ≤ v t + ((s.strike.0 - t.strike.0) + (t.strike.0 - s.strike.0))
  near s t hs ht e = go s.call refl (ltb s.strike.0 t.strike.0) refl (ltb t.strike.0 s.strike.0) refl
    where
      back : ShareExpiry t s
      back = (sym e.0, sym e.1)

      go : (c : Bool) → s.call ≡ c → (l : Bool) → ltb s.strike.0 t.strike.0 ≡ l → (k : Bool) → ltb t.strike.0 s.strike.0 ≡ k → v s ≤ v t + ((s.strike.0 - t.strike.0) + (t.strike.0 - s.strike.0))
      go true f true g k j = omega (arith, fair.calls_move s t hs ht e f (ltb-true _ _ g))
      go false f true g k j = omega (arith, fair.puts_rise s t hs ht e f (ltb-true _ _ g))
      go true f false g true j = omega (arith, fair.calls_fall t s ht hs back (sym e.0 ∙ f) (ltb-true _ _ j))
      go false f false g true j = omega (arith, fair.puts_move t s ht hs back (sym e.0 ∙ f) (ltb-true _ _ j))
      go c f false g false j = omega (arith, ap v (series_eq s t e.0 e.1 (omega (arith, ltb-false s.strike.0 t.strike.0 g, ltb-false t.strike.0 s.strike.0 j))))

  -- of three strikes a < m < b: the middle is not dearer than the mean
  mean : (a m b : Series) → H a → H m → H b → ShareExpiry a m → ShareExpiry m b → a.strike.0 < m.strike.0 → m.strike.0 < b.strike.0
      → cond m.call (leb (a.strike.0 + b.strike.0) (2 * m.strike.0)) (leb (2 * m.strike.0) (a.strike.0 + b.strike.0)) ≡ true
      → 2 * v m ≤ v a + v b
  mean a m b ha hm hb e f am mb h = go m.call refl h
    where
      ab : ShareExpiry a b
      ab = (e.0 ∙ f.0, e.1 ∙ f.1)

      go : (c : Bool) → m.call ≡ c → cond c (leb (a.strike.0 + b.strike.0) (2 * m.strike.0)) (leb (2 * m.strike.0) (a.strike.0 + b.strike.0)) ≡ true → 2 * v m ≤ v a + v b
      go true g k = fly_calls a.strike.0 m.strike.0 b.strike.0 (v a) (v m) (v b) am mb (leb-true _ _ k) (fair.calls_fall a b ha hb ab (e.0 ∙ g) (omega arith)) (fair.convex a m b ha hm hb e f am mb)
      go false g k = fly_puts a.strike.0 m.strike.0 b.strike.0 (v a) (v m) (v b) am mb (leb-true _ _ k) (fair.puts_rise a b ha hb ab (e.0 ∙ g) (omega arith)) (fair.convex a m b ha hm hb e f am mb)

  -- and where it is the mean strike, the outer two are not dearer by more than the distance
  top : (a m b : Series) → H a → H m → H b → ShareExpiry a m → ShareExpiry m b → a.strike.0 < m.strike.0 → m.strike.0 < b.strike.0
      → 2 * m.strike.0 ≡ a.strike.0 + b.strike.0 → v a + v b ≤ 2 * v m + (m.strike.0 - a.strike.0)
  top a m b ha hm hb e f am mb h = go m.call refl
    where
      go : (c : Bool) → m.call ≡ c → v a + v b ≤ 2 * v m + (m.strike.0 - a.strike.0)
      go true g = omega (arith, fair.calls_move a m ha hm e (e.0 ∙ g) am, fair.calls_fall m b hm hb f g mb)
      go false g = omega (arith, fair.puts_rise a m ha hm e (e.0 ∙ g) am, fair.puts_move m b hm hb f g mb)

  -- bought and sold, each within `n` of the other
  abbrev Within : ℕ → List Leg → Type 0
  Within n us = (worth v true us ≤ worth v false us + n) × (worth v false us ≤ worth v true us + n)

  -- one side or the other, by the first leg's
  within : (x : Bool) (n A B : ℕ) → A ≤ B + n → B ≤ A + n
      → (cond (same_bool true x) A B ≤ cond (same_bool false x) A B + n) × (cond (same_bool false x) A B ≤ cond (same_bool true x) A B + n)
  within true n A B h k = (h, k)
  within false n A B h k = (k, h)

  vertical_worth : (side : Bool) (a b : Leg) → is_vertical a b ≡ true → worth v side (a ∷ b ∷ []) ≡ cond (same_bool side a.bought) (v a.series) (v b.series)
  unfolding is_vertical worth
  vertical_worth side a b h =
      let k = passed _ h in
      rw (eqb-true a.size 1 k.1.0, eqb-true b.size 1 k.1.1.0, opposite_eq a.bought b.bought k.1.1.1.0) (go side a.bought)
    where
      go : (s x : Bool) → cond (same_bool s x) (1 * v a.series) 0 + (cond (same_bool s (not x)) (1 * v b.series) 0 + 0) ≡ cond (same_bool s x) (v a.series) (v b.series)
      go true true = omega arith
      go true false = omega arith
      go false true = omega arith
      go false false = omega arith

  pub vertical_max : (a b : Leg) → H a.series → H b.series → is_vertical a b ≡ true → Within ((a.series.strike.0 - b.series.strike.0) + (b.series.strike.0 - a.series.strike.0)) (a ∷ b ∷ [])
  unfolding is_vertical
  vertical_max a b ha hb h =
      let e = one_expiry_lem a.series b.series (passed _ h).0 in
      rw (vertical_worth true a b h, vertical_worth false a b h)
      (within a.bought _ (v a.series) (v b.series) (near a.series b.series ha hb e) (omega (arith, near b.series a.series hb ha (sym e.0, sym e.1))))

  fly_worth : (side : Bool) (a m b : Leg) → is_butterfly a m b ≡ true → worth v side (a ∷ m ∷ b ∷ []) ≡ cond (same_bool side a.bought) (v a.series + v b.series) (2 * v m.series)
  unfolding is_butterfly worth
  fly_worth side a m b h =
      let k = passed _ h in
      rw (eqb-true a.size 1 k.1.1.0, eqb-true m.size 2 k.1.1.1.0, eqb-true b.size 1 k.1.1.1.1.0, opposite_eq m.bought b.bought k.1.1.1.1.1.1.0, opposite_eq a.bought m.bought k.1.1.1.1.1.0) (go side a.bought)
    where
      go : (s x : Bool) → cond (same_bool s x) (1 * v a.series) 0 + (cond (same_bool s (not x)) (2 * v m.series) 0 + (cond (same_bool s (not (not x))) (1 * v b.series) 0 + 0)) ≡ cond (same_bool s x) (v a.series + v b.series) (2 * v m.series)
      go true true = omega arith
      go true false = omega arith
      go false true = omega arith
      go false false = omega arith

  -- the outer two of a butterfly are worth at least the middle
  fly_mean : (a m b : Leg) → H a.series → H m.series → H b.series → has_own_class a m b ≡ true → 2 * v m.series ≤ v a.series + v b.series
  unfolding has_own_class is_butterfly Between
  fly_mean a m b ha hm hb h =
      let f = and_both (is_butterfly a m b) _ h in
      let k = passed _ f.0 in
      go (one_expiry_lem a.series m.series k.0) (one_expiry_lem m.series b.series k.1.0) (to_between a.series.strike.0 m.series.strike.0 b.series.strike.0 k.1.1.1.1.1.1.1.0) f.1
    where
      A : ℕ
      A = a.series.strike.0

      M : ℕ
      M = m.series.strike.0

      B : ℕ
      B = b.series.strike.0

      go : ShareExpiry a.series m.series → ShareExpiry m.series b.series → ((A < M) × (M < B)) ⊎ ((B < M) × (M < A))
          → cond m.series.call (leb (A + B) (2 * M)) (leb (2 * M) (A + B)) ≡ true → 2 * v m.series ≤ v a.series + v b.series
      go e f (inl l) k = mean a.series m.series b.series ha hm hb e f l.0 l.1 k
      go e f (inr l) k = rw (add_comm (v a.series) (v b.series)) (mean b.series m.series a.series hb hm ha (sym f.0, sym f.1) (sym e.0, sym e.1) l.0 l.1 (rw (add_comm B A) k))

  pub fly_class : (side : Bool) (a m b : Leg) → H a.series → H m.series → H b.series → has_own_class a m b ≡ true → m.bought ≡ not side → worth v (not side) (a ∷ m ∷ b ∷ []) ≤ worth v side (a ∷ m ∷ b ∷ [])
  unfolding has_own_class is_butterfly
  fly_class side a m b ha hm hb h e =
      let f = and_both (is_butterfly a m b) _ h in
      let (h0, (h1, (h2, (h3, (h4, (am, z)))))) = passed _ f.0 in
      rw (fly_worth side a m b f.0, fly_worth (not side) a m b f.0) (go side a.bought (sym e ∙ opposite_eq a.bought m.bought am) (fly_mean a m b ha hm hb h))
    where
      go : (s x : Bool) → not s ≡ not x → 2 * v m.series ≤ v a.series + v b.series
          → cond (same_bool (not s) x) (v a.series + v b.series) (2 * v m.series) ≤ cond (same_bool s x) (v a.series + v b.series) (2 * v m.series)
      go true true e k = k
      go true false e k = absurd (true≢false (sym e))
      go false true e k = absurd (true≢false e)
      go false false e k = k

  true_ahead : (a m b : Leg) → is_butterfly a m b ≡ true → 2 * m.series.strike.0 ≡ a.series.strike.0 + b.series.strike.0 → has_own_class a m b ≡ true
  unfolding has_own_class
  true_ahead a m b h t = rw h (go m.series.call)
    where
      go : (c : Bool) → cond c (leb (a.series.strike.0 + b.series.strike.0) (2 * m.series.strike.0)) (leb (2 * m.series.strike.0) (a.series.strike.0 + b.series.strike.0)) ≡ true
      go true = le-leb (a.series.strike.0 + b.series.strike.0) (2 * m.series.strike.0) (omega arith)
      go false = le-leb (2 * m.series.strike.0) (a.series.strike.0 + b.series.strike.0) (omega arith)

  pub fly_max : (a m b : Leg) → H a.series → H m.series → H b.series → is_butterfly a m b ≡ true → 2 * m.series.strike.0 ≡ a.series.strike.0 + b.series.strike.0
      → Within (m.series.strike.0 - min a.series.strike.0 b.series.strike.0) (a ∷ m ∷ b ∷ [])
  unfolding is_butterfly Between
  fly_max a m b ha hm hb h t =
      let k = passed _ h in
      rw (fly_worth true a m b h, fly_worth false a m b h)
      (within a.bought _ (v a.series + v b.series) (2 * v m.series)
      (go (one_expiry_lem a.series m.series k.0) (one_expiry_lem m.series b.series k.1.0) (to_between a.series.strike.0 m.series.strike.0 b.series.strike.0 k.1.1.1.1.1.1.1.0))
      (omega (arith, fly_mean a m b ha hm hb (true_ahead a m b h t))))
    where
      A : ℕ
      A = a.series.strike.0

      M : ℕ
      M = m.series.strike.0

      B : ℕ
      B = b.series.strike.0

      go : ShareExpiry a.series m.series → ShareExpiry m.series b.series → ((A < M) × (M < B)) ⊎ ((B < M) × (M < A)) → v a.series + v b.series ≤ 2 * v m.series + (M - min A B)
      go e f (inl l) = omega (arith, top a.series m.series b.series ha hm hb e f l.0 l.1 t)
      go e f (inr l) = omega (arith, top b.series m.series a.series hb hm ha (sym f.0, sym f.1) (sym e.0, sym e.1) l.0 l.1 (omega arith))

  box_worth : (side : Bool) (p q d c : Leg) → is_box p q d c ≡ true → worth v side (p ∷ q ∷ d ∷ c ∷ []) ≡ cond (same_bool side c.bought) (v c.series + v q.series) (v d.series + v p.series)
  unfolding is_box worth
  box_worth side p q d c h =
      let (h0, (h1, (h2, (h3, (h4, (h5, (h6, (h7, (np, (nq, (nc, (nd, (cd, (cp, (dq, z))))))))))))))) = passed _ h in
      rw (eqb-true p.size 1 np, eqb-true q.size 1 nq, eqb-true c.size 1 nc, eqb-true d.size 1 nd, opposite_eq d.bought q.bought dq, opposite_eq c.bought p.bought cp, opposite_eq c.bought d.bought cd) (go side c.bought)
    where
      go : (s x : Bool) → cond (same_bool s (not x)) (1 * v p.series) 0 + (cond (same_bool s (not (not x))) (1 * v q.series) 0 + (cond (same_bool s (not x)) (1 * v d.series) 0 + (cond (same_bool s x) (1 * v c.series) 0 + 0)))
          ≡ cond (same_bool s x) (v c.series + v q.series) (v d.series + v p.series)
      go true true = omega arith
      go true false = omega arith
      go false true = omega arith
      go false false = omega arith

  pub box_max : (p q d c : Leg) → H p.series → H q.series → H d.series → H c.series → is_box p q d c ≡ true → Within (strike_of d - strike_of c) (p ∷ q ∷ d ∷ c ∷ [])
  unfolding is_box
  box_max p q d c hp hq hd hc h =
      let (pq, (cd, (x, (call, (put, (cp, (dq, (l, z)))))))) = passed _ h in
      let e = one_expiry_lem p.series q.series pq in
      let f = one_expiry_lem c.series d.series cd in
      let falls = fair.parity_falls c.series p.series d.series q.series hc hp hd hq call (not_eq p.series.call put) f e (eqb-true _ _ x) (eqb-true _ _ cp) (eqb-true _ _ dq) (ltb-true _ _ l) in
      let moves = fair.parity_moves c.series p.series d.series q.series hc hp hd hq call (not_eq p.series.call put) f e (eqb-true _ _ x) (eqb-true _ _ cp) (eqb-true _ _ dq) (ltb-true _ _ l) in
      rw (box_worth true p q d c h, box_worth false p q d c h) (within c.bought _ (v c.series + v q.series) (v d.series + v p.series) (omega arith) (omega arith))
