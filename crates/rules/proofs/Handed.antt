-- Settings and market by the number of numbers that the host hands in.
use mathlib.Core.Path.{◌≡◌}
use mathlib.Core.List.{List, [], ◌∷◌}
use Prim.Native.Nat.{ℕ}
use lib.ListN.{length}
use borrow.Author.Tests.{eq-eqb, ne_eqb}
use Rattle.rules.specs.Lists.{every}
use Rattle.rules.specs.Market.{settings_from, settings_of, market_from, market_of, settings_hold, market_holds, OtherLengths}

pub settings_whole : (ns : List ℕ) → length ns ≡ 20 → settings_of ns ≡ settings_from ns
unfolding settings_of
settings_whole ns h = rw (eq-eqb (length ns) 20 h)

pub settings_other : (ns : List ℕ) → (length ns ≡ 20 → ⊥) → settings_of ns ≡ settings_from []
unfolding settings_of
settings_other ns h = rw (ne_eqb (length ns) 20 h)

pub market_whole : (ns : List ℕ) → length ns ≡ 9 → market_of ns ≡ market_from ns
unfolding market_of
market_whole ns h = rw (eq-eqb (length ns) 9 h)

pub market_other : (ns : List ℕ) → (length ns ≡ 9 → ⊥) → market_of ns ≡ market_from (3 ∷ [])
unfolding market_of
market_other ns h = rw (ne_eqb (length ns) 9 h)

pub other_lengths : OtherLengths
unfolding settings_hold market_holds every
other_lengths = record { settings = λ ns h. rw (settings_other ns h); market = λ ns h. rw (market_other ns h) }
