-- Document 02, S-7, by computing its definitions: its own examples and their mirrors, and each limit on both sides.
use Rattle.std.specs.Prelude.{List, [], ◌∷◌, ◌++◌, reverse, Bool, true, false, ℕ, zero, suc, ◌-◌, ◌^◌, drop, replicate}
use Rattle.rules.specs.declared.Mills.{Mills}
use Rattle.rules.specs.declared.Market.{Market}
use Rattle.rules.specs.Edges.{Hold, usual, market, underlying_of, bad_settings, bad_market, call, put}
use Rattle.rules.specs.Crossing.{Crossing, in_sequence, are_bad_lengths, is_bad_crossing, Crossed, check_crossing}

abbrev mills : ℕ → Mills
mills n = record { 0 = n }

abbrev crossing : ℕ → ℕ → List ℕ → List ℕ → ℕ → Crossing
crossing sell size prices sizes away = record { sell = sell; size = size; prices = prices; sizes = sizes; away = mills away }

-- `n` numbers from `i` on
abbrev from : ℕ → ℕ → List ℕ
from zero i = []
from (suc n) i = i ∷ from n (suc i)

-- "10 at 1.20, 20 at 1.21, 10 at 1.22, 10 at 1.23, then 10 at 1.24", and the bids that mirror these prices about 1.20
abbrev offers : List ℕ
offers = 1200 ∷ 1210 ∷ 1220 ∷ 1230 ∷ 1240 ∷ []

abbrev bids : List ℕ
bids = 1200 ∷ 1190 ∷ 1180 ∷ 1170 ∷ 1160 ∷ []

abbrev sizes : List ℕ
sizes = 10 ∷ 20 ∷ 10 ∷ 10 ∷ 10 ∷ []

-- the filing's market: NBBO 1.00 to 1.20, the own offer at the NBO; and its mirror
abbrev offered : Market
offered = market 1 0 0 0 1000 1200 1000 1200 0

abbrev bid_for : Market
bid_for = market 1 0 0 0 1200 1400 1200 1400 0

-- a bid for a size, and an offer of it, with one fill more lent than there are places
abbrev buys : ℕ → ℕ → ℕ → Crossed
buys bid size away = check_crossing usual offered call (mills bid) (mills 1300) 1 (crossing 0 size offers sizes away) 6

abbrev sells : ℕ → ℕ → ℕ → Crossed
sells offer size away = check_crossing usual bid_for call (mills 1100) (mills offer) 1 (crossing 2 size bids sizes away) 6

abbrev crossed : ℕ → ℕ → ℕ → List ℕ → Crossed
crossed executed booked cancelled fills = record { answer = record { number = 0; cancel = 0; executed = executed; booked = booked; cancelled = cancelled }; fills = fills ++ (0 ∷ []) }

abbrev nothing : ℕ → ℕ → ℕ → Crossed
nothing room n cancel = record { answer = record { number = n; cancel = cancel; executed = 0; booked = 0; cancelled = 0 }; fills = replicate room 0 }

-- what one side gives, and what the other gives of the mirrored prices
abbrev both_sides : ℕ → ℕ → ℕ → Crossed → List (Crossed × Crossed)
both_sides price size away expected = (buys price size away, expected) ∷ (sells (2400 - price) size (2400 - away), expected) ∷ []

abbrev bad : ℕ → ℕ → ℕ → List ℕ → List ℕ → ℕ → Bool
bad room sell size prices sizes away = is_bad_crossing room (crossing sell size prices sizes away)

-- a quote beside a list that is good, or none
abbrev quoted : ℕ → List ℕ → ℕ → ℕ → Crossed
quoted resting symbol bid offer = check_crossing usual (underlying_of 10000) symbol (mills bid) (mills offer) resting (crossing 0 5 (1 ∷ []) (5 ∷ []) 0) 2

abbrev unlisted : ℕ → List ℕ → ℕ → ℕ → Crossed
unlisted resting symbol bid offer = check_crossing usual (underlying_of 10000) symbol (mills bid) (mills offer) resting (crossing 0 0 (1 ∷ []) (5 ∷ []) 0) 2

pub record Crossings : Type 0 where
  -- "away 1.23, bid 1.24 for 100: 50 executed, 50 cancelled. Bid 1.22: 40 executed, 60 booked."
  pub examples : Hold (both_sides 1240 100 1230 (crossed 50 0 50 (10 ∷ 20 ∷ 10 ∷ 10 ∷ 0 ∷ [])) ++ both_sides 1220 100 1230 (crossed 40 60 0 (10 ∷ 20 ∷ 10 ∷ 0 ∷ 0 ∷ [])))
  -- the bid at the away offer, one below and one above it; the away offer below, at and above an offer
  pub bounds : Hold (
      both_sides 1230 100 1230 (crossed 50 0 50 (10 ∷ 20 ∷ 10 ∷ 10 ∷ 0 ∷ []))
      ++ (both_sides 1229 100 1230 (crossed 40 60 0 (10 ∷ 20 ∷ 10 ∷ 0 ∷ 0 ∷ []))
      ++ (both_sides 1231 100 1230 (crossed 50 0 50 (10 ∷ 20 ∷ 10 ∷ 10 ∷ 0 ∷ []))
      ++ (both_sides 1240 100 1219 (crossed 30 0 70 (10 ∷ 20 ∷ 0 ∷ 0 ∷ 0 ∷ []))
      ++ (both_sides 1240 100 1221 (crossed 40 0 60 (10 ∷ 20 ∷ 10 ∷ 0 ∷ 0 ∷ []))
      ++ (both_sides 1240 100 1250 (crossed 60 40 0 (10 ∷ 20 ∷ 10 ∷ 10 ∷ 10 ∷ []))
      ++ both_sides 1199 100 1230 (crossed 0 100 0 (0 ∷ 0 ∷ 0 ∷ 0 ∷ 0 ∷ []))))))))
  -- "A missing away offer sets no bound and books."
  pub missing : Hold (
      (buys 1240 100 0, crossed 60 40 0 (10 ∷ 20 ∷ 10 ∷ 10 ∷ 10 ∷ []))
      ∷ (sells 1160 100 0, crossed 60 40 0 (10 ∷ 20 ∷ 10 ∷ 10 ∷ 10 ∷ []))
      ∷ (buys 1220 100 0, crossed 40 60 0 (10 ∷ 20 ∷ 10 ∷ 0 ∷ 0 ∷ []))
      ∷ (sells 1180 100 0, crossed 40 60 0 (10 ∷ 20 ∷ 10 ∷ 0 ∷ 0 ∷ []))
      ∷ [])
  -- a size that is used up within an offer, at its end, and one beyond
  pub sized : Hold (
      both_sides 1240 1 1230 (crossed 1 0 0 (1 ∷ 0 ∷ 0 ∷ 0 ∷ 0 ∷ []))
      ++ (both_sides 1240 29 1230 (crossed 29 0 0 (10 ∷ 19 ∷ 0 ∷ 0 ∷ 0 ∷ []))
      ++ (both_sides 1240 30 1230 (crossed 30 0 0 (10 ∷ 20 ∷ 0 ∷ 0 ∷ 0 ∷ []))
      ++ (both_sides 1240 31 1230 (crossed 31 0 0 (10 ∷ 20 ∷ 1 ∷ 0 ∷ 0 ∷ []))
      ++ (both_sides 1240 50 1230 (crossed 50 0 0 (10 ∷ 20 ∷ 10 ∷ 10 ∷ 0 ∷ []))
      ++ (both_sides 1240 51 1230 (crossed 50 0 1 (10 ∷ 20 ∷ 10 ∷ 10 ∷ 0 ∷ []))
      ++ both_sides 1220 41 1230 (crossed 40 1 0 (10 ∷ 20 ∷ 10 ∷ 0 ∷ 0 ∷ []))))))))
  -- prices and sizes at their limits and beyond, at the first place and at the last
  pub limits : Hold (
      (bad 2 0 1 (1 ∷ 1000000000 ∷ []) (1 ∷ 1000000 ∷ []) 0, false)
      ∷ (bad 2 1 1000000 (1000000000 ∷ 1 ∷ []) (1000000 ∷ 1 ∷ []) 1, false)
      ∷ (bad 2 0 1 (1 ∷ 2 ∷ []) (1 ∷ 1 ∷ []) 1000000000, false)
      ∷ (bad 2 0 1 (0 ∷ 2 ∷ []) (1 ∷ 1 ∷ []) 0, true)
      ∷ (bad 2 1 1 (2 ∷ 0 ∷ []) (1 ∷ 1 ∷ []) 0, true)
      ∷ (bad 2 0 1 (1 ∷ 1000000001 ∷ []) (1 ∷ 1 ∷ []) 0, true)
      ∷ (bad 2 1 1 (1000000001 ∷ 1 ∷ []) (1 ∷ 1 ∷ []) 0, true)
      ∷ (bad 2 0 1 (1 ∷ 2 ∷ []) (0 ∷ 1 ∷ []) 0, true)
      ∷ (bad 2 0 1 (1 ∷ 2 ∷ []) (1 ∷ 0 ∷ []) 0, true)
      ∷ (bad 2 0 1 (1 ∷ 2 ∷ []) (1000001 ∷ 1 ∷ []) 0, true)
      ∷ (bad 2 0 1 (1 ∷ 2 ∷ []) (1 ∷ 1000001 ∷ []) 0, true)
      ∷ (bad 2 0 0 (1 ∷ 2 ∷ []) (1 ∷ 1 ∷ []) 0, true)
      ∷ (bad 2 0 1000001 (1 ∷ 2 ∷ []) (1 ∷ 1 ∷ []) 0, true)
      ∷ (bad 2 0 1 (1 ∷ 2 ∷ []) (1 ∷ 1 ∷ []) 1000000001, true)
      ∷ (bad 0 0 1 [] [] 0, false)
      ∷ (bad 0 1 0 [] [] 0, true)
      ∷ (bad 0 0 1 [] [] (2 ^ 64 - 1), true)
      ∷ [])
  -- "strictly rising", of a sell falling: at the first two places, and at the last two
  pub sequence : Hold (
      (in_sequence true (3 ∷ 4 ∷ 5 ∷ 6 ∷ []), true)
      ∷ (in_sequence false (6 ∷ 5 ∷ 4 ∷ 3 ∷ []), true)
      ∷ (in_sequence true (4 ∷ 4 ∷ 5 ∷ 6 ∷ []), false)
      ∷ (in_sequence false (6 ∷ 6 ∷ 4 ∷ 3 ∷ []), false)
      ∷ (in_sequence true (3 ∷ 4 ∷ 5 ∷ 5 ∷ []), false)
      ∷ (in_sequence false (6 ∷ 5 ∷ 4 ∷ 4 ∷ []), false)
      ∷ (in_sequence true (3 ∷ 4 ∷ 6 ∷ 5 ∷ []), false)
      ∷ (in_sequence false (6 ∷ 5 ∷ 3 ∷ 4 ∷ []), false)
      ∷ (in_sequence true (4 ∷ 3 ∷ []), false)
      ∷ (in_sequence false (3 ∷ 4 ∷ []), false)
      ∷ (bad 2 0 1 (2 ∷ 1 ∷ []) (1 ∷ 1 ∷ []) 0, true)
      ∷ (bad 2 2 1 (1 ∷ 2 ∷ []) (1 ∷ 1 ∷ []) 0, true)
      ∷ [])
  -- 64 and 65 of them; as many fills as offers, and one fewer; a price or a size more
  pub lengths : Hold (
      (are_bad_lengths 64 (from 64 1) (from 64 1), false)
      ∷ (are_bad_lengths 65 (from 65 1) (from 65 1), true)
      ∷ (are_bad_lengths 64 (from 63 1) (from 63 1), false)
      ∷ (are_bad_lengths 63 (from 64 1) (from 64 1), true)
      ∷ (are_bad_lengths 64 (from 3 1) (from 2 1), true)
      ∷ (are_bad_lengths 64 (from 2 1) (from 3 1), true)
      ∷ (are_bad_lengths 64 [] (from 1 1), true)
      ∷ (are_bad_lengths 0 [] [], false)
      ∷ (are_bad_lengths 0 (1 ∷ []) (1 ∷ []), true)
      ∷ (bad 64 0 1 (from 64 1) (from 64 1) 0, false)
      ∷ (bad 64 7 1 (reverse (from 64 1)) (from 64 1) 0, false)
      ∷ (bad 65 0 1 (from 65 1) (from 65 1) 0, true)
      ∷ [])
  -- the quote check's refusals before 36, 36 before its rejections; what executes nothing leaves no fill, and a rejection keeps the flag
  pub numbers : Hold (
      (quoted 1 call 10 11, record { answer = record { number = 0; cancel = 0; executed = 5; booked = 0; cancelled = 0 }; fills = 5 ∷ 0 ∷ [] })
      ∷ (quoted 1 put 20000 20001, nothing 2 20 1)
      ∷ (quoted 2 put 20000 20001, nothing 2 20 1)
      ∷ (quoted 0 put 20000 20001, nothing 2 20 0)
      ∷ (quoted 1 call 10000 10001, nothing 2 21 1)
      ∷ (buys 1241 100 1230, nothing 6 26 1)
      ∷ (sells 1159 100 1170, nothing 6 26 1)
      ∷ (quoted 1 (drop 1 call) 10 11, nothing 2 1 0)
      ∷ (quoted 1 call 11 11, nothing 2 11 0)
      ∷ (unlisted 1 call 10 11, nothing 2 36 0)
      ∷ (unlisted 1 put 20000 20001, nothing 2 36 0)
      ∷ (unlisted 1 call 10000 10001, nothing 2 36 0)
      ∷ (buys 1241 0 1230, nothing 6 36 0)
      ∷ (unlisted 1 call 11 11, nothing 2 11 0)
      ∷ (unlisted 1 (drop 1 call) 10 11, nothing 2 1 0)
      ∷ (check_crossing bad_settings bad_market call (mills 0) (mills 0) 1 (crossing 0 0 [] [] 0) 1, nothing 1 9 0)
      ∷ (check_crossing usual bad_market call (mills 0) (mills 0) 1 (crossing 0 0 [] [] 0) 1, nothing 1 10 0)
      ∷ [])
  -- no list, and no fill lent
  pub none : Hold (
      (check_crossing usual offered call (mills 1240) (mills 1300) 0 (crossing 0 7 [] [] 0) 2, record { answer = record { number = 0; cancel = 0; executed = 0; booked = 7; cancelled = 0 }; fills = 0 ∷ 0 ∷ [] })
      ∷ (check_crossing usual offered call (mills 1240) (mills 1300) 0 (crossing 0 7 [] [] 1240) 0, record { answer = record { number = 0; cancel = 0; executed = 0; booked = 0; cancelled = 7 }; fills = [] })
      ∷ (check_crossing usual offered call (mills 1240) (mills 1300) 0 (crossing 0 7 (1 ∷ []) (1 ∷ []) 0) 0, nothing 0 36 0)
      ∷ [])
