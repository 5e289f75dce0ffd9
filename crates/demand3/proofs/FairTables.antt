-- Fair tables exist, flat ones and ones that move, and only the order's series matter.
use mathlib.Core.Path.{◌≡◌, refl, sym, ap, ap₂, ◌∙◌}
use mathlib.Core.List.{List, [], ◌∷◌, map}
use mathlib.Core.Bool.{Bool, true, false, cond}
use Prim.Native.Nat.{ℕ, zero, suc, ◌+◌, ◌-◌, ◌*◌, ◌≤◌, ◌<◌}
use native.Mathlib.Nat.{le_refl, add-mul, mul-le-mul_left, mul-le-mul_right}
use native.Mathlib.Omega.{arith}
use lib.IntN.{ℤ, pos, ◌+ℤ◌, ◌*ℤ◌}
use Rattle.rules.specs.declared.Series.{Series}
use Rattle.rules.specs.declared.Leg.{Leg}
use Rattle.rules.specs.Lists.{All}
use Rattle.rules.specs.Order.{signed, common_divisor, divided, units, worth_of, net_worth}
use Rattle.demand3.specs.Fair.{Has, FairExists, FairMoves, FairAgree}
use Rattle.laws.proofs.Sorting.{all_map}
use Rattle.demand3.proofs.ClassWorth.{has_all}

flat : (a m b n : ℕ) → a < m → m < b → (b - a) * n ≤ (b - m) * n + (m - a) * n
flat a m b n h k = rw (← (add-mul (b - m) (m - a) n)) (mul-le-mul_right n (omega arith))

-- the table that is the net increment everywhere
pub fair_exists : FairExists
fair_exists st m legs puts calls = (
  (λ s. st.increment.0),
  record {
    at_least = λ s h. le_refl st.increment.0;
    calls_fall = λ s t hs ht e c l. le_refl st.increment.0;
    calls_move = λ s t hs ht e c l. omega arith;
    puts_rise = λ s t hs ht e c l. le_refl st.increment.0;
    puts_move = λ s t hs ht e c l. omega arith;
    convex = λ a m' b ha hm hb e f am mb. flat a.strike.0 m'.strike.0 b.strike.0 st.increment.0 am mb;
    farther = λ eu s t hs ht e l. le_refl st.increment.0;
    put_below = puts;
    call_below = calls;
    parity_falls = λ c p d q hc hp hd hq cc' pp e f x y z l. le_refl _;
    parity_moves = λ c p d q hc hp hd hq cc' pp e f x y z l. omega arith;
  },
)

-- what a series is worth at a forward value, by type, strike and carry
abbrev at : Bool → ℕ → ℕ → ℕ → ℕ
at c f k n = cond c (f - k) (k - f) + n

least : (c : Bool) (f k n i : ℕ) → i ≤ n → i ≤ at c f k n
least c f k n i h = omega arith

calls_fall_lem : (c d : Bool) (f k l n o : ℕ) → c ≡ true → d ≡ true → n ≡ o → k < l → at d f l o ≤ at c f k n
calls_fall_lem c d f k l n o e g j h = rw (e, g) (omega arith)

calls_move_lem : (c d : Bool) (f k l n o : ℕ) → c ≡ true → d ≡ true → n ≡ o → k < l → at c f k n ≤ at d f l o + (l - k)
calls_move_lem c d f k l n o e g j h = rw (e, g) (omega arith)

puts_rise_lem : (c d : Bool) (f k l n o : ℕ) → c ≡ false → d ≡ false → n ≡ o → k < l → at c f k n ≤ at d f l o
puts_rise_lem c d f k l n o e g j h = rw (e, g) (omega arith)

puts_move_lem : (c d : Bool) (f k l n o : ℕ) → c ≡ false → d ≡ false → n ≡ o → k < l → at d f l o ≤ at c f k n + (l - k)
puts_move_lem c d f k l n o e g j h = rw (e, g) (omega arith)

put_below_lem : (c : Bool) (f k n : ℕ) → c ≡ false → n < f → n < k → at c f k n < k
put_below_lem c f k n e h g = rw e (omega arith)

one_strike_lem : (c d : Bool) (f k l n o : ℕ) → c ≡ d → k ≡ l → n ≤ o → at c f k n ≤ at d f l o
one_strike_lem c d f k l n o e g h = rw (e, g) (omega arith)

-- three points of a line that is bent once: `p` in the middle, `q` on the steep side
bent : (x y p q r : ℕ) → p ≤ y + r → (0 < p → q ≡ p + x) → (x + y) * p ≤ y * q + x * r
bent x y zero q r h g = omega arith
bent x y (suc p) q r h g = rw (g (omega arith)) (omega (arith, mul-le-mul_left x h))

raised : (x y u v w n : ℕ) → (x + y) * u ≤ y * v + x * w → (x + y) * (u + n) ≤ y * (v + n) + x * (w + n)
raised x y u v w n h = omega (arith, h)

convex_calls : (a m b f n : ℕ) → a < m → m < b → (b - a) * (f - m + n) ≤ (b - m) * (f - a + n) + (m - a) * (f - b + n)
convex_calls a m b f n h k =
    let e : b - a ≡ (m - a) + (b - m) = omega arith in
    rw e (raised (m - a) (b - m) (f - m) (f - a) (f - b) n (bent (m - a) (b - m) (f - m) (f - a) (f - b) (omega arith) (λ z. omega (arith, z))))

convex_puts : (a m b f n : ℕ) → a < m → m < b → (b - a) * (m - f + n) ≤ (b - m) * (a - f + n) + (m - a) * (b - f + n)
convex_puts a m b f n h k =
    let e : b - a ≡ (b - m) + (m - a) = omega arith in
    let g : ((b - m) + (m - a)) * (m - f + n) ≤ (m - a) * (b - f + n) + (b - m) * (a - f + n) = raised (b - m) (m - a) (m - f) (b - f) (a - f) n (bent (b - m) (m - a) (m - f) (b - f) (a - f) (omega arith) (λ z. omega (arith, z))) in
    rw e (omega (arith, g))

convex_at : (c : Bool) (a m b f n : ℕ) → a < m → m < b → (b - a) * at c f m n ≤ (b - m) * at c f a n + (m - a) * at c f b n
convex_at true a m b f n h k = convex_calls a m b f n h k
convex_at false a m b f n h k = convex_puts a m b f n h k

convex : (c d e : Bool) (a m b f n o q : ℕ) → c ≡ d → d ≡ e → n ≡ o → o ≡ q → a < m → m < b → (b - a) * at d f m o ≤ (b - m) * at c f a n + (m - a) * at e f b q
convex c d e a m b f n o q g j x y h k = rw (g, j, x, y) (convex_at e a m b f q h k)

parity_falls_lem : (c p d q : Bool) (f k i l j n n₁ n₂ n₃ : ℕ) → c ≡ true → p ≡ false → d ≡ true → q ≡ false → k ≡ i → l ≡ j → n ≡ n₁ → n ≡ n₂ → n₁ ≡ n₃ → k < l → at d f l n₂ + at p f i n₁ ≤ at c f k n + at q f j n₃
parity_falls_lem c p d q f k i l j n n₁ n₂ n₃ e₁ e₂ e₃ e₄ e₅ e₆ x y z h = rw (e₁, e₂, e₃, e₄) (omega arith)

parity_moves_lem : (c p d q : Bool) (f k i l j n n₁ n₂ n₃ : ℕ) → c ≡ true → p ≡ false → d ≡ true → q ≡ false → k ≡ i → l ≡ j → n ≡ n₁ → n ≡ n₂ → n₁ ≡ n₃ → k < l → at c f k n + at q f j n₃ ≤ at d f l n₂ + at p f i n₁ + (l - k)
parity_moves_lem c p d q f k i l j n n₁ n₂ n₃ e₁ e₂ e₃ e₄ e₅ e₆ x y z h = rw (e₁, e₂, e₃, e₄) (omega arith)

pub fair_moves : FairMoves
fair_moves st m legs f carry most later puts calls =
    record {
      at_least = λ s h. least s.call f s.strike.0 (carry s.expiry) st.increment.0 (most s.expiry);
      calls_fall = λ s t hs ht e c l. calls_fall_lem s.call t.call f s.strike.0 t.strike.0 (carry s.expiry) (carry t.expiry) c (sym e.0 ∙ c) (ap carry e.1) l;
      calls_move = λ s t hs ht e c l. calls_move_lem s.call t.call f s.strike.0 t.strike.0 (carry s.expiry) (carry t.expiry) c (sym e.0 ∙ c) (ap carry e.1) l;
      puts_rise = λ s t hs ht e c l. puts_rise_lem s.call t.call f s.strike.0 t.strike.0 (carry s.expiry) (carry t.expiry) c (sym e.0 ∙ c) (ap carry e.1) l;
      puts_move = λ s t hs ht e c l. puts_move_lem s.call t.call f s.strike.0 t.strike.0 (carry s.expiry) (carry t.expiry) c (sym e.0 ∙ c) (ap carry e.1) l;
      convex = λ a m' b ha hm hb e g am mb. convex a.call m'.call b.call a.strike.0 m'.strike.0 b.strike.0 f (carry a.expiry) (carry m'.expiry) (carry b.expiry) e.0 g.0 (ap carry e.1) (ap carry g.1) am mb;
      farther = λ eu s t hs ht e l. one_strike_lem s.call t.call f s.strike.0 t.strike.0 (carry s.expiry) (carry t.expiry) e.0 e.1 (later eu s.expiry t.expiry l);
      put_below = λ s h c. put_below_lem s.call f s.strike.0 (carry s.expiry) c (puts s h c).0 (puts s h c).1;
      call_below = calls;
      parity_falls = λ c p d q hc hp hd hq e₁ e₂ e₃ e₄ x y z l. parity_falls_lem c.call p.call d.call q.call f c.strike.0 p.strike.0 d.strike.0 q.strike.0 (carry c.expiry) (carry p.expiry) (carry d.expiry) (carry q.expiry) e₁ e₂ (sym e₃.0 ∙ e₁) (sym e₄.0 ∙ e₂) y z (ap carry x) (ap carry e₃.1) (ap carry e₄.1) l;
      parity_moves = λ c p d q hc hp hd hq e₁ e₂ e₃ e₄ x y z l. parity_moves_lem c.call p.call d.call q.call f c.strike.0 p.strike.0 d.strike.0 q.strike.0 (carry c.expiry) (carry p.expiry) (carry d.expiry) (carry q.expiry) e₁ e₂ (sym e₃.0 ∙ e₁) (sym e₄.0 ∙ e₂) y z (ap carry x) (ap carry e₃.1) (ap carry e₄.1) l;
    }

-- net worth looks at the legs' series only
same_worth : (v w : Series → ℕ) (ls : List Leg) → All (λ l. v l.series ≡ w l.series) ls → worth_of v ls ≡ worth_of w ls
unfolding worth_of
same_worth v w [] h = refl
same_worth v w (l ∷ ls) h = ap₂ (λ (n : ℕ) (z : ℤ). signed l *ℤ pos n +ℤ z) h.0 (same_worth v w ls h.1)

on_all : (v w : Series → ℕ) (legs ls : List Leg) → ((s : Series) → Has legs s → v s ≡ w s) → All (λ l. Has legs l.series) ls → All (λ l. v l.series ≡ w l.series) ls
on_all v w legs [] h k = tt
on_all v w legs (l ∷ ls) h k = (h l.series k.0, on_all v w legs ls h k.1)

pub fair_agree : FairAgree
unfolding net_worth units
fair_agree st m legs v w same =
    record {
      fair = λ f. record {
        at_least = λ s h. rw (← (same s h)) (f.at_least s h);
        calls_fall = λ s t hs ht e c l. rw (← (same s hs), ← (same t ht)) (f.calls_fall s t hs ht e c l);
        calls_move = λ s t hs ht e c l. rw (← (same s hs), ← (same t ht)) (f.calls_move s t hs ht e c l);
        puts_rise = λ s t hs ht e c l. rw (← (same s hs), ← (same t ht)) (f.puts_rise s t hs ht e c l);
        puts_move = λ s t hs ht e c l. rw (← (same s hs), ← (same t ht)) (f.puts_move s t hs ht e c l);
        convex = λ a m' b ha hm hb e g am mb. rw (← (same a ha), ← (same m' hm), ← (same b hb)) (f.convex a m' b ha hm hb e g am mb);
        farther = λ eu s t hs ht e l. rw (← (same s hs), ← (same t ht)) (f.farther eu s t hs ht e l);
        put_below = λ s h c. rw (← (same s h)) (f.put_below s h c);
        call_below = λ s h c u. rw (← (same s h)) (f.call_below s h c u);
        parity_falls = λ c p d q hc hp hd hq e₁ e₂ e₃ e₄ e₅ e₆ e₇ l. rw (← (same c hc), ← (same p hp), ← (same d hd), ← (same q hq)) (f.parity_falls c p d q hc hp hd hq e₁ e₂ e₃ e₄ e₅ e₆ e₇ l);
        parity_moves = λ c p d q hc hp hd hq e₁ e₂ e₃ e₄ e₅ e₆ e₇ l. rw (← (same c hc), ← (same p hp), ← (same d hd), ← (same q hq)) (f.parity_moves c p d q hc hp hd hq e₁ e₂ e₃ e₄ e₅ e₆ e₇ l);
      };
      worth = same_worth v w (map (divided (common_divisor legs)) legs) (all_map (λ l. v l.series ≡ w l.series) (divided (common_divisor legs)) legs (on_all v w legs legs same (has_all legs)));
    }
