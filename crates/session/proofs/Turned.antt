-- What is known of a login's call that nothing turns away.
use Rattle.std.proofs.Common.{◌≡◌, ℕ, ◌<◌, ◌≤◌, Bool, true, false, List, length, arith}
use Rattle.rules.specs.Tally.{is_bad_tally}
use Rattle.rules.specs.Session.{login_at, turned_away}
use Rattle.rules.proofs.Turning.{admitted, good, good_login, countable}

-- the login has its place
pub placed : (is_order : Bool) (s : List ℕ) (i : ℕ) → turned_away is_order s i ≡ 0 → (i < 32) × (length s ≡ 192)
placed is_order s i h = let a = admitted is_order s i h in let b = a.here in (omega arith, (good s a.good).whole)

module _ (s : List ℕ) (i : ℕ) (h : turned_away true s i ≡ 0) where
  -- an order's tally and running number can be counted on
  pub tally_countable : is_bad_tally (login_at s i).tally ≡ false
  tally_countable = countable s i (admitted true s i h)

  pub running_countable : (login_at s i).running ≤ 10000
  running_countable =
      let a = admitted true s i h in
      let g = good_login (login_at s i) ((good s a.good).each i a.here) in
      let most = g.most in
      let limited = g.limited in
      omega arith
