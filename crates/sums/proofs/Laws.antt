-- A sum modulo 256 as it is taken byte by byte.
use Rattle.std.proofs.Common.{◌≡◌, ◌∙◌, List, [], ◌∷◌, ℕ, ◌+◌, ◌%◌, ◌<◌, arith, fold}
use Rattle.rules.specs.Lists.{total}

-- from any sum on
sum_from : (n : ℕ) (bs : List ℕ) → n < 256 → fold (λ s b. (s + b) % 256) n bs ≡ (n + total bs) % 256
unfolding total
sum_from n [] h = omega arith
sum_from n (b ∷ bs) h = sum_from ((n + b) % 256) bs (omega arith) ∙ omega arith

pub sum_lem : (bs : List ℕ) → fold (λ s b. (s + b) % 256) 0 bs ≡ total bs % 256
sum_lem bs = sum_from 0 bs (omega arith) ∙ omega arith
