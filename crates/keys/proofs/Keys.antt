-- A key and a tag, by the series' type and the leg's side.
use mathlib.Core.Path.{◌≡◌, refl, ap}
use mathlib.Core.Bool.{Bool, true, false, cond}
use Prim.Native.Nat.{ℕ, ◌-◌, ◌%◌, ◌≤◌}
use native.Mathlib.Omega.{arith}
use lib.Dec.{eqb}
use borrow.Author.Tests.{eqb-true, eqb-false}
use Rattle.rules.specs.declared.Series.{Series}
use Rattle.rules.specs.Pairing.{digit}
use Rattle.keys.specs.Tags.{packed, key_of}

pub small_digit : (b : Bool) → digit b ≤ 1
small_digit true = omega arith
small_digit false = omega arith

-- a key from its type
key_from : Bool → ℕ → ℕ → Bool → ℕ
key_from second expiry strike call = packed (digit call) (cond second strike expiry) (cond second expiry (cond call (99999999 - strike) strike))

pub key_call : (second : Bool) (s : Series) (c : Bool) → s.call ≡ c
    → key_of second s ≡ packed (digit c) (cond second s.strike.0 s.expiry) (cond second s.expiry (cond c (99999999 - s.strike.0) s.strike.0))
unfolding key_from
key_call second s c e = ap (key_from second s.expiry s.strike.0) e

-- the side that a tag says
pub side_says : (tag : ℕ) → digit (eqb (tag % 2) 1) ≡ tag % 2
side_says tag = go (eqb (tag % 2) 1) refl
  where
    go : (b : Bool) → eqb (tag % 2) 1 ≡ b → digit b ≡ tag % 2
    go true e = omega (arith, eqb-true (tag % 2) 1 e)
    go false e = let d = eqb-false (tag % 2) 1 e in omega (arith, d)
