-- Document 01, Fair table.
use Rattle.std.specs.Prelude.{◌≡◌, true, false, cond, ℕ, ◌+◌, ◌-◌, ◌*◌, ◌≤◌, ◌<◌}
use mathlib.Core.List.{List, map, Memᴰ}
use Rattle.rules.specs.declared.Series.{Series}
use Rattle.rules.specs.declared.Leg.{Leg}
use Rattle.rules.specs.declared.Settings.{Settings}
use Rattle.rules.specs.declared.Market.{Market}
use Rattle.rules.specs.Order.{is_yes, net_worth}

-- "each series among the order's legs, and for no other; every condition here binds those series only"
abbrev pub Has : List Leg → Series → Type 0
Has legs s = Memᴰ s (map (λ l. l.series) legs)

-- "For one type and expiry"
abbrev pub ShareExpiry : Series → Series → Type 0
ShareExpiry s t = (s.call ≡ t.call) × (s.expiry ≡ t.expiry)

-- "at the same type and strike"
abbrev pub ShareStrike : Series → Series → Type 0
ShareStrike s t = (s.call ≡ t.call) × (s.strike.0 ≡ t.strike.0)

-- A premium table, "A whole number of mills for each series", that is fair (document 01's term) for an order's legs.
pub record Fair (st : Settings) (m : Market) (legs : List Leg) (premium : Series → ℕ) : Type 0 where
  -- "Each is at least one net increment."
  pub at_least : (s : Series) → Has legs s → st.increment.0 ≤ premium s
  -- "calls do not rise with strike", "neither moves more than the strike does"
  pub calls_fall : (s t : Series) → Has legs s → Has legs t → ShareExpiry s t → s.call ≡ true → s.strike.0 < t.strike.0 → premium t ≤ premium s
  pub calls_move : (s t : Series) → Has legs s → Has legs t → ShareExpiry s t → s.call ≡ true → s.strike.0 < t.strike.0 → premium s ≤ premium t + (t.strike.0 - s.strike.0)
  -- "puts do not fall", "neither moves more than the strike does"
  pub puts_rise : (s t : Series) → Has legs s → Has legs t → ShareExpiry s t → s.call ≡ false → s.strike.0 < t.strike.0 → premium s ≤ premium t
  pub puts_move : (s t : Series) → Has legs s → Has legs t → ShareExpiry s t → s.call ≡ false → s.strike.0 < t.strike.0 → premium t ≤ premium s + (t.strike.0 - s.strike.0)
  -- "for strikes a < m < b, (b-a) times the premium at m is at most (b-m) times that at a plus (m-a) times that at b"
  pub convex : (a m b : Series) → Has legs a → Has legs m → Has legs b → ShareExpiry a m → ShareExpiry m b → a.strike.0 < m.strike.0 → m.strike.0 < b.strike.0
      → (b.strike.0 - a.strike.0) * premium m ≤ (b.strike.0 - m.strike.0) * premium a + (m.strike.0 - a.strike.0) * premium b
  -- "Unless European index style, a farther expiry at the same type and strike is not cheaper."
  pub farther : is_yes st.european ≡ false → (s t : Series) → Has legs s → Has legs t → ShareStrike s t → s.expiry < t.expiry → premium s ≤ premium t
  -- "Every put is below its strike"
  pub put_below : (s : Series) → Has legs s → s.call ≡ false → premium s < s.strike.0
  -- "every call is below the underlying's value where known"
  pub call_below : (s : Series) → Has legs s → s.call ≡ true → 0 < m.underlying.0 → premium s < m.underlying.0
  -- "Call less put at one strike, where both are legs of one expiry, does not rise with strike and falls by no more than the strike rises."
  -- Call `c` and put `p` stand at the lower strike, call `d` and put `q` at the higher.
  pub parity_falls : (c p d q : Series) → Has legs c → Has legs p → Has legs d → Has legs q
      → c.call ≡ true → p.call ≡ false → ShareExpiry c d → ShareExpiry p q → c.expiry ≡ p.expiry
      → c.strike.0 ≡ p.strike.0 → d.strike.0 ≡ q.strike.0 → c.strike.0 < d.strike.0
      → premium d + premium p ≤ premium c + premium q
  pub parity_moves : (c p d q : Series) → Has legs c → Has legs p → Has legs d → Has legs q
      → c.call ≡ true → p.call ≡ false → ShareExpiry c d → ShareExpiry p q → c.expiry ≡ p.expiry
      → c.strike.0 ≡ p.strike.0 → d.strike.0 ≡ q.strike.0 → c.strike.0 < d.strike.0
      → premium c + premium q ≤ premium d + premium p + (d.strike.0 - c.strike.0)

-- "It is shown that a fair table exists whenever every put leg's strike and, for an order with calls, the underlying unless missing exceed the net increment."
abbrev pub FairExists : Type 0
FairExists =
    (st : Settings) (m : Market) (legs : List Leg) →
    ((s : Series) → Has legs s → s.call ≡ false → st.increment.0 < s.strike.0) →
    ((s : Series) → Has legs s → s.call ≡ true → 0 < m.underlying.0 → st.increment.0 < m.underlying.0) →
    (premium : Series → ℕ) × Fair st m legs premium

-- A table that moves: a call is worth what a forward value is above its strike, a put what its strike is above that value, and either its expiry's carry more. So the conditions leave more than flat tables, and such a table meets some of them exactly.
abbrev pub intrinsic : ℕ → (ℕ → ℕ) → Series → ℕ
intrinsic forward carry s = cond s.call (forward - s.strike.0) (s.strike.0 - forward) + carry s.expiry

abbrev pub FairMoves : Type 0
FairMoves =
    (st : Settings) (m : Market) (legs : List Leg) (forward : ℕ) (carry : ℕ → ℕ) →
    ((e : ℕ) → st.increment.0 ≤ carry e) →
    (is_yes st.european ≡ false → (d e : ℕ) → d < e → carry d ≤ carry e) →
    ((s : Series) → Has legs s → s.call ≡ false → (carry s.expiry < forward) × (carry s.expiry < s.strike.0)) →
    ((s : Series) → Has legs s → s.call ≡ true → 0 < m.underlying.0 → intrinsic forward carry s < m.underlying.0) →
    Fair st m legs (intrinsic forward carry)

-- "and for no other": tables that agree on the order's series are fair together, and give the same net worth
pub record SameTable (st : Settings) (m : Market) (legs : List Leg) (v w : Series → ℕ) : Type 0 where
  pub fair : Fair st m legs v → Fair st m legs w
  pub worth : net_worth v legs ≡ net_worth w legs

abbrev pub FairAgree : Type 0
FairAgree =
    (st : Settings) (m : Market) (legs : List Leg) (v w : Series → ℕ) →
    ((s : Series) → Has legs s → v s ≡ w s) →
    SameTable st m legs v w
