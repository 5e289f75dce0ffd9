-- What is said of an order record before any check.
use Rattle.std.specs.Prelude.{◌≡◌, List, [], ◌∷◌, Bool, not, ℕ, length, take, Result, OnOk}
use Rattle.rules.specs.declared.RawLeg.{RawLeg}
use Rattle.rules.specs.declared.Terms.{Terms}
use Rattle.rules.specs.declared.Settings.{Settings}
use Rattle.rules.specs.declared.Market.{Market}
use Rattle.rules.specs.Market.{settings_hold, market_holds}
use Rattle.rules.specs.Numbers.{first_of, is_bad_shares, refusal}
use Rattle.limits.specs.declared.Held.{Held}
use Rattle.answers.specs.declared.Refusal.{Refusal}
use Rattle.answers.specs.Answers.{refusal_number, number_of}
use Rattle.sorting.specs.Keys.{sort_keys}
use Rattle.reading.specs.declared.Read.{Read}
use Rattle.reading.specs.Legs.{read_refusals, GoodRead}

-- refusals 6 to 10, with 33
abbrev pub later : Bool → Bool → Bool → Terms → Settings → Market → List (Bool × ℕ)
later twice other price t st m = (twice, 6) ∷ (other, 7) ∷ (price, 8) ∷ (is_bad_shares t, 33) ∷ (not (settings_hold st), 9) ∷ (not (market_holds m), 10) ∷ []

-- of the legs of an order that reading does not refuse, with its terms; `after` are their places afterwards
pub record Refuses (st : Settings) (m : Market) (t : Terms) (read : Read) (places roots after : List ℕ) (r : Result Held Refusal) : Type 0 where
  pub number : (legs : List RawLeg) (many : ℕ) (sizes : List ℕ) → length legs ≡ 16 → first_of (read_refusals many (take many legs)) ≡ 0 → GoodRead legs many places sizes roots read
      → number_of refusal_number r ≡ refusal st m t many (take many legs)
  pub sorted : OnOk r (take read.len after ≡ sort_keys (take read.len places))
  pub full : length after ≡ 16
