-- The checks of one leg.
use Rattle.std.proofs.Common.{◌≡◌, true, ◌&&◌, ◌∷◌, [], ℕ}
use Rattle.rules.specs.declared.Leg.{Leg}
use Rattle.rules.specs.declared.Terms.{Terms}
use Rattle.rules.specs.declared.Settings.{Settings}
use Rattle.rules.specs.declared.Market.{Market}
use Rattle.rules.specs.Order.{is_yes, is_simple}
use Rattle.rules.specs.Checks.{put_test, call_test, simple_buy}
use Rattle.rules.specs.Market.{tick_distance}
use Rattle.rules.specs.Numbers.{rejection, first_of}
use Rattle.laws.proofs.Simple.{no_buy_buy, no_debit_credit, no_maximum}

-- those of complex orders do not apply to it
pub of_one_leg : (st : Settings) (m : Market) (t : Terms) (u : Leg) (class : ℕ) → is_simple t (u ∷ []) ≡ true
    → first_of ((is_yes st.check20 && simple_buy put_test t (u ∷ []), 20) ∷ (is_yes st.check21 && simple_buy (call_test (is_yes st.adjusted) m) t (u ∷ []), 21) ∷ (is_yes st.check25 && tick_distance st m t (u ∷ []), 25) ∷ [])
    ≡ rejection st m t (u ∷ []) class
unfolding rejection first_of
of_one_leg st m t u class simple =
    rw (no_buy_buy t (u ∷ []) simple (is_yes st.check22) st, no_debit_credit t (u ∷ []) simple (is_yes st.check23) class, no_maximum t u (is_yes st.check24) st)
