-- Document 02, S-2: both sides of an auction pair.
use Rattle.std.specs.Prelude.{◌≡◌, Bool, true, false, cond, not, ◌&&◌, ◌||◌, ℕ, ℤ}
use mathlib.Core.List.{List, [], ◌∷◌, Memᴰ}
use Rattle.rules.specs.declared.Settings.{Settings}
use Rattle.rules.specs.declared.Market.{Market}
use Rattle.rules.specs.declared.PairSide.{PairSide}
use Rattle.rules.specs.declared.PairAnswer.{PairAnswer}
use Rattle.rules.specs.Order.{is_yes, terms_of}
use Rattle.rules.specs.Kinds.{is_accepted}
use Rattle.rules.specs.Numbers.{check_slices, Inputs, answer_to}

-- what the host hands in for one of the two orders
pub record PairOrder : Type 0 where
  pub symbols : List ℕ
  pub counts : List ℕ
  pub price : ℤ
  pub kind : ℕ
  pub stop : ℕ
  pub manual : ℕ
  pub opening : ℕ
  pub shares : ℤ

abbrev pub inputs_for : Settings → Market → PairOrder → Inputs
inputs_for st m o = record { settings = st; market = m; price = o.price; kind = o.kind; stop = o.stop; manual = o.manual; opening = o.opening; shares = o.shares }

-- an order's own number, by the order check
abbrev pub own_number : Settings → Market → PairOrder → ℕ
own_number st m o = (answer_to (inputs_for st m o) o.symbols o.counts).number

-- "If both get 0, both pass, else neither", by the numbers of the agency order and the contra order
abbrev pub both_pass : ℕ → ℕ → Bool
both_pass agency contra = is_accepted agency && is_accepted contra

-- "For a pair marked to continue unpaired, a failing contra order alone lets the agency order pass.": rejected or refused; a failing agency order stops both
abbrev pub agency_alone : ℕ → ℕ → ℕ → Bool
agency_alone unpaired agency contra = is_yes unpaired && (is_accepted agency && not (is_accepted contra))

-- 1 for an order that passes, 0 for one that does not
abbrev pub side_of : ℕ → Bool → PairSide
side_of number passes = record { number = number; passes = cond passes 1 0 }

-- "the answer holds both own numbers, a refusal's too, and which side passes"
unfoldable pub paired : ℕ → ℕ → ℕ → PairAnswer
paired unpaired agency contra =
    record {
      agency = side_of agency (both_pass agency contra || agency_alone unpaired agency contra);
      contra = side_of contra (both_pass agency contra);
    }

-- "an agency order and its contra order together. Both are checked with the same settings and market."
unfoldable pub check_pair : Settings → Market → ℕ → PairOrder → PairOrder → PairAnswer
check_pair st m unpaired agency contra = paired unpaired (own_number st m agency) (own_number st m contra)

-- what is promised of the answer to a pair, by its mark
pub record Passing (unpaired : ℕ) (r : PairAnswer) : Type 0 where
  -- an order passes or not
  pub flags : Memᴰ r.agency.passes (0 ∷ 1 ∷ []) × Memᴰ r.contra.passes (0 ∷ 1 ∷ [])
  -- an order that passes has the number 0
  pub agency_accepted : r.agency.passes ≡ 1 → r.agency.number ≡ 0
  pub contra_accepted : r.contra.passes ≡ 1 → r.contra.number ≡ 0
  -- the contra order never passes alone
  pub never_alone : r.contra.passes ≡ 1 → r.agency.passes ≡ 1
  -- without the mark the two pass together or not at all
  pub together : is_yes unpaired ≡ false → r.agency.passes ≡ r.contra.passes
  -- where both have 0, both pass
  pub both_accepted : r.agency.number ≡ 0 → r.contra.number ≡ 0 → (r.agency.passes ≡ 1) × (r.contra.passes ≡ 1)
  -- of a marked pair an agency order that has 0 passes
  pub unpaired_accepted : is_yes unpaired ≡ true → r.agency.number ≡ 0 → r.agency.passes ≡ 1

-- "both own numbers": what the order check gives for that order alone
abbrev pub IsOwn : Settings → Market → PairOrder → ℕ → Type 0
IsOwn st m o n = n ≡ (check_slices st m (terms_of o.price o.kind o.stop o.manual o.opening o.shares) o.symbols o.counts).number

pub record PairTheorem : Type 0 where
  pub passing : (st : Settings) (m : Market) (unpaired : ℕ) (agency contra : PairOrder) → Passing unpaired (check_pair st m unpaired agency contra)
  pub own : (st : Settings) (m : Market) (unpaired : ℕ) (agency contra : PairOrder) → let r = check_pair st m unpaired agency contra in IsOwn st m agency r.agency.number × IsOwn st m contra r.contra.number
