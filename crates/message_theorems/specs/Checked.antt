-- Document 02, S-1: "The answer equals the order check's on the legs read, with the flags passed by the host."
use Rattle.std.specs.Prelude.{◌≡◌, List, ℕ, pos}
use Rattle.rules.specs.Lists.{All}
use Rattle.rules.specs.Order.{Lent, symbols_of, counts_of, lent_legs}
use Rattle.rules.specs.Numbers.{Inputs, answer_to}
use Rattle.rules.specs.Fix.{SaidOrder, order_of, message_refusal, MessageInputs, check_fix}
use Rattle.demand3.specs.Demand3.{IsWhole}

-- price and kind are the message's, all else is the host's
abbrev pub inputs_of : MessageInputs → SaidOrder → Inputs
inputs_of a o = record { settings = a.settings; market = a.market; price = o.price; kind = o.kind; stop = a.stop; manual = a.manual; opening = a.opening; shares = pos 0 }

-- the order check on slices, of the same legs end to end
abbrev pub Checked : Type 0
Checked =
    (a : MessageInputs) (m : List ℕ) (xs : List Lent) → message_refusal m ≡ 0 → All IsWhole xs → lent_legs xs ≡ (order_of m).legs
    → check_fix a m ≡ answer_to (inputs_of a (order_of m)) (symbols_of xs) (counts_of xs)
