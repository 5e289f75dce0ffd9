use Rattle.std.proofs.Common.{◌≡◌, reverse, rules, ◌∙◌}
use Rattle.std.specs.List.{fold}
use Rattle.rules.specs.Order.{gcd}
use Rattle.unit_counts.proofs.Divisor.{divisor_folded, divisor_read}
use Rattle.unit_counts.proofs.common_divisor.Goals as goal

pub returns : goal.returns
returns c =
    let ss = c.args.sizes.now in
    let folded : c.fold.result ≡ fold (λ d s. gcd s d) 0 (reverse ss) = search rules in
    divisor_read ss _ (folded ∙ divisor_folded ss)
