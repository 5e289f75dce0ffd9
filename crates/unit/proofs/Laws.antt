-- The host's numbers are the definitions' records, and an answer is its fields.
use mathlib.Core.Path.{◌≡◌}
use mathlib.Core.List.{List}
use Prim.Native.Nat.{ℕ}
use lib.IntN.{ℤ}
use Rattle.rules.specs.declared.Terms.{Terms}
use Rattle.rules.specs.declared.Settings.{Settings}
use Rattle.rules.specs.declared.Market.{Market}
use Rattle.rules.specs.declared.OrderAnswer.{OrderAnswer}
use Rattle.rules.specs.declared.PairAnswer.{PairAnswer}
use Rattle.rules.specs.Order.{terms_of}
use Rattle.rules.specs.Numbers.{check_slices}
use Rattle.rules.specs.Pair.{PairOrder, own_number, paired, check_pair}

pub same_terms : (kind stop manual opening : ℕ) {p p' n n' : ℤ} → p ≡ p' → n ≡ n' → terms_of p kind stop manual opening n ≡ terms_of p' kind stop manual opening n'
same_terms kind stop manual opening p n = λ i. terms_of (p i) kind stop manual opening (n i)

pub same_check : (st : Settings) (m : Market) (symbols counts : List ℕ) {t t' : Terms} → t ≡ t' → check_slices st m t symbols counts ≡ check_slices st m t' symbols counts
same_check st m symbols counts p = λ i. check_slices st m (p i) symbols counts

abbrev pub number : OrderAnswer → ℕ
number a = a.number

pub pair_fields : (r : PairAnswer) (st : Settings) (m : Market) (unpaired : ℕ) (agency contra : PairOrder) → r ≡ paired unpaired (own_number st m agency) (own_number st m contra)
    → record { agency = record { number = r.agency.number; passes = r.agency.passes }; contra = record { number = r.contra.number; passes = r.contra.passes } } ≡ check_pair st m unpaired agency contra
unfolding check_pair
pair_fields r st m unpaired agency contra p =
    λ i. record { agency = record { number = (p i).agency.number; passes = (p i).agency.passes }; contra = record { number = (p i).contra.number; passes = (p i).contra.passes } }
